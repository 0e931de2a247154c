pub mod ListsWithin

-- The laws of pages.
--     Checks   37 and 38
--     Lists    a page's lists
pub mod Checks
pub mod Lists

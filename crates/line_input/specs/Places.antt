-- Where a line lies, and what of the buffer it shows. Which bytes the system gives is free: of those that were read nothing is said.
use Rattle.std.specs.Prelude.{◌≡◌, ◌⊎◌, List, ℕ, ◌+◌, ◌<◌, ◌≤◌, length, get_or, None, Ok, IfOk, IfSome}
use Rattle.std.specs.declared.option.Option.{Option}
use Rattle.std.specs.declared.result.Result.{Result}
use Rattle.line_input.specs.declared.Held.{Held}
use Rattle.line_input.specs.declared.Line.{Line}
use Rattle.line_input.specs.declared.LineError.{LineError}

abbrev pub feed : ℕ
feed = 10

-- within what is held, and that within a buffer of this length
pub record Lined (r : Line) (room : ℕ) : Type 0 where
  pub started : r.start ≤ r.end
  pub ended : r.end ≤ room
  pub taken : r.held.at ≤ r.held.end
  pub within : r.held.end ≤ room

-- where there is a line, it is such a one
abbrev pub IfLine : Result (Option Line) LineError → (Line → Type 0) → Type 0
IfLine r P = IfOk r (λ o. IfSome o P)

-- a line of the buffer: no line feed stands in it; one stands after it, before what is held then, or nothing is held any more
pub record WholeLine (buffer : List ℕ) (r : Line) : Type 0 where
  pub plain : (k : ℕ) → k < r.end → r.start ≤ k → get_or buffer k 0 ≡ feed → ⊥
  pub after : ((r.held.at ≡ r.end + 1) × (get_or buffer r.end 0 ≡ feed)) ⊎ ((r.held.at ≡ r.end) × (r.held.end ≡ r.end))

-- ---- the bytes that were kept at the buffer's beginning, and others read after them
pub record LineRead (old : List ℕ) (kept : ℕ) (r : Result (Option Line) LineError) (new : List ℕ) : Type 0 where
  pub lined : IfLine r (λ l. Lined l (length old))
  pub same : length new ≡ length old
  pub stays : (k : ℕ) → k < kept → get_or new k 0 ≡ get_or old k 0
  pub first : IfLine r (λ l. (l.start ≡ 0) × (kept ≤ l.held.end))
  pub whole : IfLine r (WholeLine new)
  pub none : r ≡ Ok None → kept ≡ 0

-- ---- a call with a buffer that held `old`: where it finds a line, this begins with the bytes that were held, of which none is lost; where it finds none
-- and reading went well, none was held
pub record NextLine (old : List ℕ) (held : Held) (r : Result (Option Line) LineError) (new : List ℕ) : Type 0 where
  pub lined : IfLine r (λ l. Lined l (length old))
  pub same : length new ≡ length old
  pub begins : IfLine r (λ l. (k : ℕ) → held.at + k < held.end → get_or new (l.start + k) 0 ≡ get_or old (held.at + k) 0)
  pub all : IfLine r (λ l. held.end + l.start ≤ l.held.end + held.at)
  pub whole : IfLine r (WholeLine new)
  pub none : r ≡ Ok None → held.at ≡ held.end

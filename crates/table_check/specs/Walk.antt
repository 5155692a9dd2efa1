-- Going through a table from record to record, by where the next one begins. It does not look at extents, and keeps no stack.
use Rattle.std.specs.Prelude.{ℕ, ◌+◌, ◌≤◌, ◌<◌, ◌≡◌, cond, List, [], ◌∷◌, eqb, get_or, Option, None, Some}
use Rattle.meaning.specs.Kinds.{name_kind}
use Rattle.meaning.specs.Listing.{Listed}
use Rattle.table_layout.specs.Layout.{kind_numbers, fields_at, head_bytes}
use Rattle.table_check.specs.Records.{kind_byte}

-- where the record behind the head of this one begins: its first operand, or, without operands, what follows it
abbrev pub next : List ℕ → ℕ → ℕ
next t q = q + head_bytes (get_or t q 0)

-- the name, if a name record stands there
abbrev pub name_there : List ℕ → ℕ → Option ℕ
name_there t q = cond (eqb (get_or t q 0) (kind_byte name_kind)) (Some (get_or t (q + fields_at) 0)) None

-- from a place on these records are met, one after the other, and then the end
abbrev pub Walk : (table : List ℕ) (end place : ℕ) → List Listed → Type 0
Walk t end q [] = q ≡ end
Walk t end q (r ∷ rs) = (q ≡ r.0) × (name_there t q ≡ r.1) × (q < end) × (get_or t q 0 < kind_numbers) × Walk t end (next t q) rs

-- before the end: the record that a walk stands at is the next of the list, and the walk goes on behind its head
pub record Step (t : List ℕ) (end q : ℕ) (rs : List Listed) : Type 0 where
  pub rest : List Listed
  pub is : rs ≡ (q, name_there t q) ∷ rest
  pub known : get_or t q 0 < 17
  pub room : next t q ≤ end
  pub on : Walk t end (next t q) rest

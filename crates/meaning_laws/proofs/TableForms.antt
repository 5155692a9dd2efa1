-- What the rules write, standing in a table: from which place up to which, how it falls into parts, and how a record's head is read.
-- It rests on the heads. Assumes nothing.
use Prim.Native.Nat.{ℕ, suc, ◌+◌, ◌≤◌}
use native.Mathlib.Omega.{arith}
use mathlib.Core.Path.{◌≡◌, refl, ap, subst, ◌∙◌}
use mathlib.Core.List.{List, []}
use mathlib.Core.Bool.{true}
use lib.ListN.{length, length-append}
use Rattle.meaning.specs.Expr.{Expr, literal, name, unary, binary, conditional, select, list_of, map_of, comprehension, call, none_call, or_value}
use Rattle.meaning.specs.Kinds.{Kind, is_leaf}
use Rattle.meaning.specs.Heads.{got, first, head_at}
use Rattle.meaning.specs.Table.{Part, bare, marked}
use Rattle.meaning_laws.specs.Written.{Form, nothing, ◌then◌, Record, Written, depth}
use Rattle.meaning_laws.proofs.TableBytes.{measured, Stands, stands-first, stands-second}
use Rattle.meaning_laws.proofs.TableKinds.{kind_byte, fields_of, operands_of}
use Rattle.meaning_laws.proofs.TableHeads.{behind_head, head_of, record-length, rest-stands, rest-follows, head_read}

-- ---- forms that stand in a table

module _ (table : List ℕ) where
  -- what is written stands in the table, from p up to q
  pub record From (F : Form) (p q : ℕ) : Type 0 where
    pub bs : List ℕ
    pub form : F p bs
    pub stands : Stands table p bs
    pub ends : p + length bs ≡ q

  -- Nothing ends where it begins.
  pub nothing-from : (p q : ℕ) → From nothing p q → p ≡ q
  nothing-from p q f = let n = ap length f.form in let e = f.ends in omega arith

  -- the same bytes, written as another form
  pub from-same : {F : Form} (G : Form) (p q : ℕ) (f : From F p q) → G p f.bs → From G p q
  from-same G p q f g = record { bs = f.bs; form = g; stands = f.stands; ends = f.ends }

  -- two forms one after the other, and where the first ends
  pub then-from : (F G : Form) (p q : ℕ) → From (F then G) p q → (m : ℕ) × From F p m × From G m q × (m ≤ q)
  then-from F G p q f =
      let (xs, ys, e, x, y) = f.form in
      let both = subst (λ (l : List ℕ). Stands table p l) e f.stands in
      let total = f.ends in
      let sum = ap length e ∙ length-append xs ys in (
        p + length xs,
        record { bs = xs; form = x; stands = stands-first table xs ys p both; ends = refl },
        record { bs = ys; form = y; stands = stands-second table xs ys p both; ends = omega arith },
        omega arith,
      )

-- a record that stands in the table: its head is read, its operands follow
module _ (width : ℕ) (table : List ℕ) (k : Kind) (ns : List ℕ) (arity : length (fields_of k) ≡ length ns) (place : ℕ) (F : Form) (p q : ℕ)
    (f : From table (Record width place (kind_byte k) (measured width (fields_of k) ns) F) p q) where
  operands_end : behind_head width k p + length f.form.rest ≡ q
  operands_end =
      let size = record-length width table k ns arity place p F f.bs f.form in
      let total = f.ends in
      omega arith

  -- The operands stand behind the head, up to the end of the record.
  pub operands-from : From table F (behind_head width k p) q
  operands-from =
      record {
        bs = f.form.rest;
        form = rest-follows width table k ns arity place p F f.bs f.form;
        stands = rest-stands width table k ns arity place p F f.bs f.form f.stands;
        ends = operands_end;
      }

  -- The head is read, with the end of what is written.
  pub head-from : (end : ℕ) → q ≤ end
      → (is_leaf (operands_of k) (first ns) ≡ true → From table F (behind_head width k p) q → behind_head width k p ≡ q)
      → head_at width table p end ≡ got (head_of width k ns p q)
  head-from end h leaf =
      let total = f.ends in
      let rest-ends = operands_end in
      let none_left : is_leaf (operands_of k) (first ns) ≡ true → length f.form.rest ≡ 0 = λ t. let e = leaf t operands-from in omega arith in
      rw f.ends at (head_read width table k ns arity place p F f.bs f.form f.stands end (omega arith) none_left)

-- ---- operands with or without a mark

-- a mark counts as a level
abbrev pub depth_part : Part → ℕ
depth_part (bare e) = depth e
depth_part (marked m e) = suc (depth e)

-- an operand without a mark, or with one
abbrev pub WrittenPart : ℕ → List ℕ → Part → Form
WrittenPart width text (bare e) = Written width text e
WrittenPart width text (marked m e) = Record width m 14 [] (Written width text e)

-- Every expression is at least one record.
pub nests-some : (e : Expr) → depth e ≤ 0 → ⊥
nests-some (literal q s) h = omega arith
nests-some (name q n) h = omega arith
nests-some (unary q o x) h = omega arith
nests-some (binary q o x y) h = omega arith
nests-some (conditional q x y z) h = omega arith
nests-some (select q test field x) h = omega arith
nests-some (list_of q es) h = omega arith
nests-some (map_of q es) h = omega arith
nests-some (comprehension q accumulator item range init condition step result) h = omega arith
nests-some (call q f x) h = omega arith
nests-some (none_call q) h = omega arith
nests-some (or_value q x y) h = omega arith

-- Every operand is at least one record.
pub part-nests : (x : Part) → depth_part x ≤ 0 → ⊥
part-nests (bare e) h = nests-some e h
part-nests (marked m e) h = omega arith

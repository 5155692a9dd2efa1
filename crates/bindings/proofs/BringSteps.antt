-- The ways through `judge_table`, `judge_all` and `bring_in`, over plain variables. Assumes nothing.
use Prim.Native.Nat.{ℕ, ◌+◌, ◌-◌, ◌≤◌, ◌<◌}
use mathlib.Core.Path.{◌≡◌, refl, sym, ap, ◌∙◌}
use mathlib.Core.List.{List}
use mathlib.Core.Bool.{Bool, true, false, ◌&&◌}
use native.Mathlib.Omega.{arith}
use lib.Dec.{leb}
use lib.ListN.{get_or}
use borrow.Author.Tests.{le-leb, lt-leb, leb-true, leb-false}
use Rattle.meaning.specs.declared.refusal.Reason.{Reason}
use Rattle.meaning.specs.declared.refusal.Refusal.{Refusal}
use Rattle.meaning.specs.declared.refusal.Reason.TheVariants.{UnsoundBinding, NotALiteral, BindingRoomFull}
use Rattle.meaning.specs.Errors.{refusal_at}
use Rattle.meaning.specs.Value.{Value}
use Rattle.meaning.specs.Expr.{Expr}
use Rattle.meaning.specs.Heads.{Got, got, refused, ◌>>=◌, ◌>>◌, demand, start}
use Rattle.meaning.specs.Bindings.{cells_of, bytes_of}
use Rattle.meaning.specs.Spelling.{Literal, literal_of, place_of, literal_nesting, spelled, spelled_root}
use Rattle.meaning_laws.proofs.Reading.{was_read}
use Rattle.meaning_laws.proofs.SpelledReasons.{literal-reason, root-reason, root-refused}
use Rattle.table_check.specs.Records.{expr_of, part_of, Sound}
use Rattle.bindings_literals.specs.declared.judgement.Judged.{Judged}
use Rattle.std.specs.Prelude.{None, Some, Result, Ok, Err}
use Rattle.bindings_literals.specs.Literals.{literal_in}
use Rattle.bindings_literals.specs.Judging.{fault_in, cells_for, bytes_for, judged_of, judged_part}
use Rattle.bindings.specs.Bringing.{literal_for, said}
use Rattle.bindings_literals.proofs.LiteralLaws.{View, a_scalar, a_list, a_map, another, view}
use Rattle.bindings_literals.proofs.PartLaws.{bare-part}
use Rattle.bindings_literals.proofs.SpelledLaws.{literal-in, spelled-fault, spelled-spells, spells-cells, spells-bytes}

pub room-left : (room used need : ℕ) → used ≤ room → leb need (room - used) ≡ leb (used + need) room
room-left room used need h = by-test (leb need (room - used)) refl
  where
    by-test : (b : Bool) → leb need (room - used) ≡ b → leb need (room - used) ≡ leb (used + need) room
    by-test true e = e ∙ sym (le-leb (used + need) room (omega (arith, leb-true need (room - used) e)))
    by-test false e = e ∙ sym (lt-leb (used + need) room (omega (arith, leb-false need (room - used) e)))

-- ---- what was refused, and what was not

fault-refused : {A : Type 0} (g : Got A) (p : ℕ) → fault_in g ≡ Some p → (why : Reason) × (g ≡ refused why p)
fault-refused (got a) p e = let z : ◌≡◌ {A = ℕ} 0 1 = cc in absurd (omega arith)
fault-refused (refused r q) p e = let f : q ≡ p = cc in (r, ap (λ n. refused r n) f)

fault-none : {A : Type 0} (g : Got A) → fault_in g ≡ None → (a : A) × (g ≡ got a)
fault-none (got a) e = (a, refl)
fault-none (refused r p) e = let z : ◌≡◌ {A = ℕ} 0 1 = cc in absurd (omega arith)

-- ---- an accepted table

-- what the definition says of one whose literals are l, and whose root spells v
module _ (rc rb c b : ℕ) (e : Expr) where
  abbrev Says : Result (Unit {0}) Refusal → Type 0
  Says a = a ≡ said (literal_for rc rb c b e)

  not-literal : (p : ℕ) → fault_in (literal_of e) ≡ Some p → Says (Err (refusal_at NotALiteral p))
  unfolding literal_for ◌>>=◌
  not-literal p f = let r = fault-refused (literal_of e) p f in let g = literal-reason e r.0 p r.1 in rw (r.1, g)

  module _ (l : Literal) (made : literal_of e ≡ got l) where
    no-root : (why : Reason) (p : ℕ) → spelled_root l ≡ refused why p → Says (Err (refusal_at UnsoundBinding p))
    unfolding literal_for ◌>>=◌
    no-root why p f = let g = root-reason l why p f in rw (made, f, g)

    module _ (v : Value) (root : spelled_root l ≡ got v) where
      weighed : (a d : Bool) → leb (c + cells_of v) rc ≡ a → leb (b + bytes_of v) rb ≡ d → Says (said (◌>>◌ (demand (a && d) BindingRoomFull start) (got l)))
      unfolding literal_for ◌>>=◌
      weighed a d f g = rw (made, root, f, g)

      full : (a d : Bool) → (a && d) ≡ false → leb (c + cells_of v) rc ≡ a → leb (b + bytes_of v) rb ≡ d → Says (Err (refusal_at BindingRoomFull 0))
      unfolding ◌>>◌ ◌>>=◌ demand
      full a d h f g = (rw h at (weighed a d f g))

      fitting : leb (c + cells_of v) rc ≡ true → leb (b + bytes_of v) rb ≡ true → Says (Ok tt)
      unfolding ◌>>◌ ◌>>=◌ demand
      fitting f g = weighed true true f g

      fitted : leb (c + cells_of v) rc ≡ true → leb (b + bytes_of v) rb ≡ true → literal_for rc rb c b e ≡ got l
      unfolding literal_for ◌>>=◌ ◌>>◌ demand
      fitted f g = rw (made, root, f, g)

deep-root : (l : Literal) → 32 < literal_nesting l → spelled_root l ≡ refused UnsoundBinding (place_of l)
unfolding spelled_root ◌>>◌ ◌>>=◌ demand
deep-root l h = rw (lt-leb (literal_nesting l) 32 h)

shallow-root : (l : Literal) (v : Value) → literal_nesting l ≤ 32 → spelled l ≡ got v → spelled_root l ≡ got v
unfolding spelled_root ◌>>◌ ◌>>=◌ demand
shallow-root l v h e = rw (le-leb (literal_nesting l) 32 h, e)

root-place : (t x : List ℕ) (p : ℕ) → View t x p → place_of (literal_in (expr_of t x p)) ≡ p
unfolding place_of literal_in
root-place t x p (a_scalar s e h) = rw e
root-place t x p (a_list b e ls f) = rw f
root-place t x p (a_map b e ls f) = rw f
root-place t x p (another e f g) = rw f

module _ (t x : List ℕ) (small : (i : ℕ) → get_or t i 0 < 256) (s : Sound t x 0) (rc rb c b : ℕ) (j : Judged) (is : j ≡ judged_part (part_of t x 0)) where
  abbrev e : Expr
  e = expr_of t x 0

  abbrev Answers : Result (Unit {0}) Refusal → Type 0
  Answers a = a ≡ said (literal_for rc rb c b e)

  judged : j ≡ judged_of e
  unfolding judged_part
  judged = is ∙ ap judged_part (bare-part t x 0 s).1

  other-is : j.other ≡ fault_in (literal_of e)
  unfolding judged_of
  other-is = ap (λ (k : Judged). k.other) judged

  nesting-is : j.nesting ≡ literal_nesting (literal_in e)
  unfolding judged_of
  nesting-is = ap (λ (k : Judged). k.nesting) judged

  key-is : j.key ≡ fault_in (spelled (literal_in e))
  unfolding judged_of
  key-is = ap (λ (k : Judged). k.key) judged ∙ sym (spelled-fault (literal_in e))

  cells_are : j.cells ≡ cells_for (literal_in e)
  unfolding judged_of
  cells_are = ap (λ (k : Judged). k.cells) judged

  bytes-are : j.bytes ≡ bytes_for (literal_in e)
  unfolding judged_of
  bytes-are = ap (λ (k : Judged). k.bytes) judged

  pub table-other : (p : ℕ) → j.other ≡ Some p → Answers (Err (refusal_at NotALiteral p))
  table-other p f = not-literal rc rb c b e p (sym other-is ∙ f)

  module _ (f : j.other ≡ None) where
    made : literal_of e ≡ got (literal_in e)
    made = let a = fault-none (literal_of e) (sym other-is ∙ f) in let g = was_read (literal-in e) a.1 in a.1 ∙ ap (λ (l : Literal). got l) (sym g)

    pub table-deep : 32 < j.nesting → Answers (Err (refusal_at UnsoundBinding 0))
    table-deep h =
        let d = deep-root (literal_in e) (omega (arith, nesting-is)) in
        no-root rc rb c b e (literal_in e) made UnsoundBinding 0 (d ∙ ap (λ n. refused UnsoundBinding n) (root-place t x 0 (view t x 0 small s)))

    module _ (h : j.nesting ≤ 32) where
      flat : literal_nesting (literal_in e) ≤ 32
      flat = omega (arith, nesting-is)

      pub table-key : (p : ℕ) → j.key ≡ Some p → Answers (Err (refusal_at UnsoundBinding p))
      table-key p k =
          let r = fault-refused (spelled (literal_in e)) p (sym key-is ∙ k) in
          no-root rc rb c b e (literal_in e) made r.0 p (root-refused (literal_in e) flat r.0 p r.1)

      module _ (k : j.key ≡ None) where
        spelt : (v : Value) × (spelled (literal_in e) ≡ got v)
        spelt = fault-none (spelled (literal_in e)) (sym key-is ∙ k)

        root : spelled_root (literal_in e) ≡ got spelt.0
        root = shallow-root (literal_in e) spelt.0 flat spelt.1

        cells-of : cells_of spelt.0 ≡ j.cells
        cells-of = spells-cells (was_read (spelled-spells (literal_in e)) spelt.1) ∙ sym cells_are

        bytes-of : bytes_of spelt.0 ≡ j.bytes
        bytes-of = spells-bytes (was_read (spelled-spells (literal_in e)) spelt.1) ∙ sym bytes-are

        pub table-cells : leb (c + j.cells) rc ≡ false → Answers (Err (refusal_at BindingRoomFull 0))
        table-cells m = full rc rb c b e (literal_in e) made spelt.0 root false (leb (b + bytes_of spelt.0) rb) refl (rw cells-of m) refl

        pub table-bytes : leb (c + j.cells) rc ≡ true → leb (b + j.bytes) rb ≡ false → Answers (Err (refusal_at BindingRoomFull 0))
        table-bytes m n = full rc rb c b e (literal_in e) made spelt.0 root true false refl (rw cells-of m) (rw bytes-of n)

        pub table_done : leb (c + j.cells) rc ≡ true → leb (b + j.bytes) rb ≡ true → Answers (Ok tt)
        table_done m n = fitting rc rb c b e (literal_in e) made spelt.0 root (rw cells-of m) (rw bytes-of n)

-- An accepted record as an operand that carries no mark, and the three ways in which one is judged and laid down: as a List, as a Map, and
-- as a record without parts. Assumes nothing.
use Prim.Native.Nat.{ℕ, ◌+◌, ◌≤◌}
use mathlib.Core.Path.{◌≡◌, sym, ap, ◌∙◌}
use mathlib.Core.List.{List}
use native.Mathlib.Omega.{arith}
use lib.ListN.{length, get_or}
use Rattle.meaning.specs.Expr.{Expr, list_of, map_of}
use Rattle.meaning.specs.Kinds.{list_kind, map_kind}
use Rattle.meaning.specs.Heads.{Got, got, ◌>>=◌}
use Rattle.meaning.specs.Table.{Part, bare, body_at, as_expr, as_part, expr_at, part_at, word_bytes}
use Rattle.table_layout.specs.Layout.{word_at}
use Rattle.table_layout.specs.Layout.{after}
use Rattle.table_check.specs.Records.{part_in, expr_of, part_of, Sound, SoundPart, elements_of, pairs_of, numbers_in}
use Rattle.table_check.proofs.AcceptedRecordLaws.{sound-here}
use Rattle.table_check.proofs.Opened.{opened, head_in, head-of-kind, record-read, part-read}
use Rattle.table_check.proofs.Parts.{sound-kind, part-bare}
use Rattle.bindings_literals.specs.Literals.{row_bytes, entry_bytes, Operands, Entries}
use Rattle.bindings_literals.proofs.Rows.{row_operands, row-entries}

bare_of : {o : Got (Expr × ℕ)} {e : Expr} {q : ℕ} → o ≡ got (e, q) → ◌>>=◌ {B = Part × ℕ} o (λ a. got (bare a.0, a.1)) ≡ got (bare e, q)
unfolding ◌>>=◌
bare_of f = rw f

module _ (t x : List ℕ) (p : ℕ) where
  -- a record where no mark may stand is one where it may
  pub bare-part : Sound t x p → SoundPart t x p × (part_of t x p ≡ bare (expr_of t x p))
  unfolding Sound SoundPart as_expr as_part part_of part_in
  bare-part s =
      let k = sound-kind t x p s in
      let h = head-of-kind t x p k.0 k.1 (sound-here t x p s) in
      let b : body_at x (λ q e. expr_at word_bytes t x 63 q e) (λ q e. part_at word_bytes t x 63 q e) p (head_in t x p k.0) k.0 (numbers_in t x p k.0) ≡
      got (expr_of t x p, after t p) = sym (record-read t x p 63 (length t) h) ∙ s in
      let f : part_at word_bytes t x 64 p (length t) ≡ got (bare (expr_of t x p), after t p) = part-read t x p 63 (length t) h ∙ bare_of b in
      let i : part_of t x p ≡ bare (expr_of t x p) = ap part_in f in
      (rw i f, i)

  -- ---- a List and a Map

  pub record ListAt : Type 0 where
    pub is : part_of t x p ≡ bare (list_of p (elements_of t x (word_at t (p + 3)) (p + 5)))
    pub body : p + 5 ≤ length t
    pub room : p + word_at t (p + 1) ≤ length t
    pub rest : Operands t x (word_at t (p + 3)) (p + 5)
    pub ends : 5 + row_bytes t (word_at t (p + 3)) (p + 5) ≡ word_at t (p + 1)

  pub record MapAt : Type 0 where
    pub is : part_of t x p ≡ bare (map_of p (pairs_of t x (word_at t (p + 3)) (p + 5)))
    pub body : p + 5 ≤ length t
    pub room : p + word_at t (p + 1) ≤ length t
    pub rest : Entries t x (word_at t (p + 3)) (p + 5)
    pub ends : 5 + entry_bytes t (word_at t (p + 3)) (p + 5) ≡ word_at t (p + 1)

  pub list_at_lem : SoundPart t x p → get_or t p 0 ≡ 12 → ListAt
  list_at_lem s b =
      let f = part-bare t x p s (λ e. omega (arith, b, e)) in
      let o = opened t x p list_kind b f.0 in
      let r = row_operands t x (after t p) (word_at t (p + 3)) (p + 5) o.row in
      record { is = f.1 ∙ ap (λ e. bare e) o.is; body = o.body; room = o.room; rest = r.0; ends = omega (arith, r.1) }

  pub map_at_lem : SoundPart t x p → get_or t p 0 ≡ 13 → MapAt
  map_at_lem s b =
      let f = part-bare t x p s (λ e. omega (arith, b, e)) in
      let o = opened t x p map_kind b f.0 in
      let r = row-entries t x (after t p) (word_at t (p + 3)) (p + 5) o.row in
      record { is = f.1 ∙ ap (λ e. bare e) o.is; body = o.body; room = o.room; rest = r.0; ends = omega (arith, r.1) }

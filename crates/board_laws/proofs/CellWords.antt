-- Two words that are a value are the words that the value is written as. Assumes nothing.
use Prim.Native.Nat.{ℕ, ◌-◌, ◌/◌, ◌%◌, ◌^◌, ◌<◌, ◌≤◌}
use mathlib.Core.Path.{◌≡◌, refl, sym, ap, ◌∙◌, subst}
use mathlib.Core.Bool.{true, false, cond, true≢false}
use native.Mathlib.Omega.{arith}
use lib.Dec.{ltb, eqb}
use borrow.Author.Tests.{ltb-false, eqb-true}
use Rattle.numbers.specs.declared.double.Double.{Double}
use Rattle.numbers.specs.declared.double.Double.TheVariants.{Plain, Nan}
use Rattle.numbers.specs.Double.{bits_of, double_of}
use Rattle.numbers.proofs.DoubleLaws.{bits_back}
use Rattle.rooms.specs.declared.value.Value.{Value}
use Rattle.rooms.specs.declared.value.TextSpace.{TextSpace}
use Rattle.rooms.specs.declared.value.TextSpace.TheVariants as Text
use Rattle.rooms.specs.declared.value.CellSpace.{CellSpace}
use Rattle.rooms.specs.declared.value.CellSpace.TheVariants as Cells
use Rattle.rooms.specs.Value.{double_value}
use Rattle.rooms.specs.Cells.{word_of, signed_of, text_number, cell_number, packed, head_of, payload_of, text_place, cell_place, bare_of, text_of, container_of, value_of, cell_of}
use Rattle.machine.proofs.AnyCells.{either}
use Rattle.board_laws.specs.ValueWords.{Written}
use Rattle.rooms.specs.Spans.{span, row}
use Rattle.std.specs.Prelude.{Some}

no_value : {h x : ℕ} → Written h x Value.Absent
no_value = record { words = λ e. absurd (true≢false e) }

is-value : {h x : ℕ} (v : Value) → head_of v ≡ h → payload_of v ≡ x → Written h x v
is-value v e f = record { words = λ g. (e, f) }

-- ---- text

module _ (k s d n h x : ℕ) (e : h ≡ packed k s d n)
    (heads : (space : TextSpace) → Written (packed k (text_number space) 0 n) x (cond (eqb k 5) (Value.String (span space x n)) (Value.Bytes (span space x n)))) where
  text_at : (space : TextSpace) → s ≡ text_number space → Written h x (text_of k d (Some (span space x n)))
  unfolding text_of
  text_at space f =
      either (Written h x) (eqb d 0) (λ g. subst (λ (y : ℕ). Written y x (cond (eqb k 5) (Value.String (span space x n)) (Value.Bytes (span space x n)))) (sym (e ∙ (λ i. packed k (f i) (eqb-true d 0 g i) n))) (heads space))
      (λ g. no_value)

  text-written : Written h x (text_of k d (text_place s x n))
  unfolding text_place text_of
  text-written =
      either (λ t. Written h x (text_of k d t)) (ltb 65535 x) (λ f. no_value)
      (λ f. either (λ t. Written h x (text_of k d t)) (ltb 65535 n) (λ g. no_value)
      (λ g. either (λ t. Written h x (text_of k d t)) (eqb s 0) (λ l. text_at Text.Literal (eqb-true s 0 l))
      (λ l. either (λ t. Written h x (text_of k d t)) (eqb s 1) (λ m. text_at Text.Binding (eqb-true s 1 m))
      (λ m. either (λ t. Written h x (text_of k d t)) (eqb s 2) (λ o. text_at Text.Evaluation (eqb-true s 2 o)) (λ o. no_value)))))

-- ---- cells

module _ (k s d n h x : ℕ) (e : h ≡ packed k s d n)
    (heads : (space : CellSpace) → Written (packed k (cell_number space) d n) x (container_of k d (Some (row space x n)))) where
  cells_at : (space : CellSpace) → s ≡ cell_number space → Written h x (container_of k d (Some (row space x n)))
  cells_at space f = subst (λ (y : ℕ). Written y x (container_of k d (Some (row space x n)))) (sym (e ∙ (λ i. packed k (f i) d n))) (heads space)

  container-written : Written h x (container_of k d (cell_place s x n))
  unfolding cell_place container_of
  container-written =
      either (λ c. Written h x (container_of k d c)) (ltb 65535 x) (λ f. no_value)
      (λ f. either (λ c. Written h x (container_of k d c)) (ltb 65535 n) (λ g. no_value)
      (λ g. either (λ c. Written h x (container_of k d c)) (eqb s 0) (λ l. cells_at Cells.Binding (eqb-true s 0 l))
      (λ l. either (λ c. Written h x (container_of k d c)) (eqb s 1) (λ m. cells_at Cells.Evaluation (eqb-true s 1 m)) (λ m. no_value))))

module _ (d n x : ℕ) (space : CellSpace) where
  list-head : Written (packed 12 (cell_number space) d n) x (container_of 12 d (Some (row space x n)))
  unfolding container_of
  list-head = either (Written (packed 12 (cell_number space) d n) x) (ltb 255 d) (λ e. no_value) (λ e. is-value (Value.List d (row space x n)) refl refl)

  map-head : Written (packed 13 (cell_number space) d n) x (container_of 13 d (Some (row space x n)))
  unfolding container_of
  map-head = either (Written (packed 13 (cell_number space) d n) x) (ltb 255 d) (λ e. no_value) (λ e. is-value (Value.Map d (row space x n)) refl refl)

  -- a present Optional has no length
  optional-head : Written (packed 15 (cell_number space) d n) x (container_of 15 d (Some (row space x n)))
  unfolding container_of
  optional-head =
      either (Written (packed 15 (cell_number space) d n) x) (ltb 255 d) (λ e. no_value)
      (λ e. either (Written (packed 15 (cell_number space) d n) x) (eqb n 0) (λ f. is-value (Value.OptionalOf d space x) (ap (packed 15 (cell_number space) d) (sym (eqb-true n 0 f))) refl) (λ f. no_value))

-- ---- values without a place

-- an Int's word gives back the word
word_back : (x : ℕ) → x < 2 ^ 64 → word_of (signed_of x) ≡ x
unfolding word_of signed_of
word_back x h = either (λ z. word_of z ≡ x) (ltb x (2 ^ 63)) (λ e. refl) (λ e. twice (ltb-false x (2 ^ 63) e))
  where
    twice : 2 ^ 63 ≤ x → 2 ^ 64 - 1 - (2 ^ 64 - 1 - x) ≡ x
    twice l = omega (arith, h, l)

double-written : (d : Double) (x : ℕ) → bits_of d ≡ x → Written 4 x (double_value d)
double-written (Plain y) x e = is-value (Value.Double y) refl e
double-written (Nan b) x e = is-value (Value.Nan b) refl e

bare-written : (k x : ℕ) → x < 2 ^ 64 → Written k x (bare_of k x)
unfolding bare_of
bare-written k x h =
    either (Written k x) (eqb k 0) (λ e. at 0 e (either (Written 0 x) (eqb x 0) (λ f. is-value Value.Null refl (sym (eqb-true x 0 f))) (λ f. no_value)))
    (λ _. either (Written k x) (eqb k 1)
    (λ e. at 1 e (either (Written 1 x) (eqb x 0) (λ f. is-value (Value.Bool false) refl (sym (eqb-true x 0 f)))
    (λ _. either (Written 1 x) (eqb x 1) (λ f. is-value (Value.Bool true) refl (sym (eqb-true x 1 f))) (λ f. no_value))))
    (λ _. either (Written k x) (eqb k 2) (λ e. at 2 e (is-value (Value.Int (signed_of x)) refl (word_back x h)))
    (λ _. either (Written k x) (eqb k 3) (λ e. at 3 e (is-value (Value.Uint x) refl refl))
    (λ _. either (Written k x) (eqb k 4) (λ e. at 4 e (double-written (double_of x) x (bits_back x h)))
    (λ _. either (Written k x) (eqb k 14) (λ e. at 14 e (either (Written 14 x) (eqb x 0) (λ f. is-value Value.OptionalNone refl (sym (eqb-true x 0 f))) (λ f. no_value))) (λ _. no_value))))))
  where
    at : {v : Value} (n : ℕ) → eqb k n ≡ true → Written n x v → Written k x v
    at {v} n e w = subst (λ (y : ℕ). Written y x v) (sym (eqb-true k n e)) w

-- ---- any two words

value_written : (h k s d n x : ℕ) → x < 2 ^ 64 → h ≡ packed k s d n → Written h x (value_of h k s d n x)
unfolding value_of
value_written h k s d n x l e =
    either (Written h x) (eqb k 5) (λ f. text-kind 5 (eqb-true k 5 f) (λ space. is-value (Value.String (span space x n)) refl refl))
    (λ _. either (Written h x) (eqb k 6) (λ f. text-kind 6 (eqb-true k 6 f) (λ space. is-value (Value.Bytes (span space x n)) refl refl))
    (λ _. either (Written h x) (eqb k 12) (λ f. cells-kind 12 (eqb-true k 12 f) (λ space. list-head d n x space))
    (λ _. either (Written h x) (eqb k 13) (λ f. cells-kind 13 (eqb-true k 13 f) (λ space. map-head d n x space))
    (λ _. either (Written h x) (eqb k 15) (λ f. cells-kind 15 (eqb-true k 15 f) (λ space. optional-head d n x space))
    (λ _. either (Written h x) (eqb k h) (λ f. subst (λ (y : ℕ). Written y x (bare_of k x)) (eqb-true k h f) (bare-written k x l)) (λ _. no_value))))))
  where
    text-kind : (j : ℕ) → k ≡ j → ((space : TextSpace) → Written (packed j (text_number space) 0 n) x (cond (eqb j 5) (Value.String (span space x n)) (Value.Bytes (span space x n))))
        → Written h x (text_of k d (text_place s x n))
    text-kind j f heads = subst (λ (y : ℕ). Written h x (text_of y d (text_place s x n))) (sym f) (text-written j s d n h x (e ∙ (λ i. packed (f i) s d n)) heads)

    cells-kind : (j : ℕ) → k ≡ j → ((space : CellSpace) → Written (packed j (cell_number space) d n) x (container_of j d (Some (row space x n))))
        → Written h x (container_of k d (cell_place s x n))
    cells-kind j f heads = subst (λ (y : ℕ). Written h x (container_of y d (cell_place s x n))) (sym f) (container-written j s d n h x (e ∙ (λ i. packed (f i) s d n)) heads)

-- Two words that are a value are its words.
pub cell-written : (h x : ℕ) → x < 2 ^ 64 → Written h x (cell_of h x)
unfolding cell_of packed
cell-written h x l = value_written h (h % 256) (h / 256 % 256) (h / 65536 % 256) (h / 16777216) x l (omega arith)

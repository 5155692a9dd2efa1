-- What is put for a value, piece by piece, as the functions put it. Assumes nothing.
use Prim.Native.Nat.{ℕ, suc, ◌+◌, ◌-◌, ◌*◌, ◌≤◌, ◌<◌}
use mathlib.Core.Path.{◌≡◌, ap, ◌∙◌}
use mathlib.Core.List.{List, [], ◌∷◌, ◌++◌}
use lib.IntN.{ℤ}
use native.Mathlib.Omega.{arith}
use Rattle.meaning.specs.Value.{int, uint, double, string, bytes}
use Rattle.rooms.specs.declared.value.Value.{Value}
use Rattle.rooms.specs.declared.value.Parts.{Parts}
use Rattle.rooms.specs.declared.value.Row.{Row}
use Rattle.rooms.specs.declared.value.CellSpace.{CellSpace}
use Rattle.rooms.specs.Value.{parts_of, plain_of}
use Rattle.rooms.specs.Rooms.{Rooms, cell_at}
use Rattle.rooms_comparison.specs.Seen.{seen_plain, seen_in}
use Rattle.line_pieces.specs.Page.{Page, put, puts}
use Rattle.line_pieces.specs.Spelled.{ascii, hexadecimal, decimal, signed, quoted}
use Rattle.line_pieces.proofs.Putting.{puts_one, puts_none, puts_joined}
use Rattle.line_values.specs.Written.{written_scalar, separator}
use Rattle.line_values.specs.Shown.{Show, shown_seen, elements_shown, entries_shown, parts_shown, shown_to}

-- ---- a word and what it is about

pub int_put : (z : ℤ) (p : Page) → puts (written_scalar (int z)) p ≡ puts (signed z) (puts (ascii "Int ") p)
unfolding written_scalar
int_put z p = puts_joined (ascii "Int ") (signed z) p

pub uint_put : (n : ℕ) (p : Page) → puts (written_scalar (uint n)) p ≡ puts (decimal n) (puts (ascii "Uint ") p)
unfolding written_scalar
uint_put n p = puts_joined (ascii "Uint ") (decimal n) p

pub double_put : (n : ℕ) (p : Page) → puts (written_scalar (double n)) p ≡ puts (hexadecimal 16 n) (puts (ascii "Double 0x") p)
unfolding written_scalar
double_put n p = puts_joined (ascii "Double 0x") (hexadecimal 16 n) p

pub string_put : (s : List ℕ) (p : Page) → puts (written_scalar (string s)) p ≡ puts (quoted s) (puts (ascii "String ") p)
unfolding written_scalar
string_put s p = puts_joined (ascii "String ") (quoted s) p

pub bytes_put : (s : List ℕ) (p : Page) → puts (written_scalar (bytes s)) p ≡ puts (quoted s) (puts (ascii "Bytes ") p)
unfolding written_scalar
bytes_put s p = puts_joined (ascii "Bytes ") (quoted s) p

-- ---- between two parts

some_more : (n : ℕ) → (n ≡ 0 → ⊥) → n ≡ suc (n - 1)
some_more n h = omega arith

pub separator_none : (p : Page) → puts (separator 0) p ≡ p
unfolding separator
separator_none p = puts_none p

pub separator_some : (n : ℕ) (p : Page) → (n ≡ 0 → ⊥) → puts (separator n) p ≡ puts (ascii ", ") p
unfolding separator
separator_some n p h = ap (λ k. puts (separator k) p) (some_more n h)

-- ---- elements and entries: the turns of a loop over n of them

none-left : (n i : ℕ) → n ≤ i → n - i ≡ 0
none-left n i h = omega arith

one-left : (n i : ℕ) → i < n → n - i ≡ suc (n - i - 1)
one-left n i h = omega arith

left-after : (n i : ℕ) → n - i - 1 ≡ n - (i + 1)
left-after n i = omega arith

module _ (f : Show) (r : Rooms) (s : CellSpace) (a n i : ℕ) (p : Page) where
  pub elements_over : n ≤ i → puts (elements_shown f r s (a + i) (n - i)) p ≡ p
  unfolding elements_shown
  elements_over h = ap (λ k. puts (elements_shown f r s (a + i) k) p) (none-left n i h) ∙ puts_none p

  pub elements_on : i < n → puts (elements_shown f r s (a + i) (n - i)) p ≡ puts (elements_shown f r s (a + (i + 1)) (n - (i + 1))) (puts (separator (n - i - 1)) (puts (f (cell_at r s (a + i))) p))
  unfolding elements_shown
  elements_on h =
      ap (λ k. puts (elements_shown f r s (a + i) k) p) (one-left n i h)
      ∙ puts_joined (f (cell_at r s (a + i)) ++ separator (n - i - 1)) (elements_shown f r s (suc (a + i)) (n - i - 1)) p
      ∙ (λ j. puts (elements_shown f r s (next-place j) (left-after n i j)) (puts_joined (f (cell_at r s (a + i))) (separator (n - i - 1)) p j))
    where
      next-place : suc (a + i) ≡ a + (i + 1)
      next-place = omega arith

  pub entries_over : n ≤ i → puts (entries_shown f r s (a + 2 * i) (n - i)) p ≡ p
  unfolding entries_shown
  entries_over h = ap (λ k. puts (entries_shown f r s (a + 2 * i) k) p) (none-left n i h) ∙ puts_none p

  pub entries_on : i < n → puts (entries_shown f r s (a + 2 * i) (n - i)) p ≡ puts (entries_shown f r s (a + 2 * (i + 1)) (n - (i + 1))) (puts (separator (n - i - 1)) (puts (f (cell_at r s (a + 2 * i + 1))) (puts (ascii ": ") (puts (f (cell_at r s (a + 2 * i))) p))))
  unfolding entries_shown
  entries_on h =
      ap (λ k. puts (entries_shown f r s (a + 2 * i) k) p) (one-left n i h)
      ∙ puts_joined (((f (cell_at r s (a + 2 * i)) ++ ascii ": ") ++ f (cell_at r s (suc (a + 2 * i)))) ++ separator (n - i - 1)) (entries_shown f r s (suc (suc (a + 2 * i))) (n - i - 1)) p
      ∙ (λ j. puts (entries_shown f r s (next-place j) (left-after n i j)) (one-entry j))
    where
      next-place : suc (suc (a + 2 * i)) ≡ a + 2 * (i + 1)
      next-place = omega arith

      value-place : suc (a + 2 * i) ≡ a + 2 * i + 1
      value-place = omega arith

      one-entry : puts (((f (cell_at r s (a + 2 * i)) ++ ascii ": ") ++ f (cell_at r s (suc (a + 2 * i)))) ++ separator (n - i - 1)) p ≡ puts (separator (n - i - 1)) (puts (f (cell_at r s (a + 2 * i + 1))) (puts (ascii ": ") (puts (f (cell_at r s (a + 2 * i))) p)))
      one-entry =
          puts_joined ((f (cell_at r s (a + 2 * i)) ++ ascii ": ") ++ f (cell_at r s (suc (a + 2 * i)))) (separator (n - i - 1)) p
          ∙ ap (puts (separator (n - i - 1))) (
          puts_joined (f (cell_at r s (a + 2 * i)) ++ ascii ": ") (f (cell_at r s (suc (a + 2 * i)))) p
          ∙ (λ j. puts (f (cell_at r s (value-place j))) (puts_joined (f (cell_at r s (a + 2 * i))) (ascii ": ") p j))
          )

-- ---- a value, by what it is made of

pub nested_none : (r : Rooms) (m : Value) (p : Page) → puts (shown_to 0 r m) p ≡ p
unfolding shown_to
nested_none r m p = puts_none p

module _ (n : ℕ) (r : Rooms) (m : Value) (p : Page) (h : n ≡ 0 → ⊥) where
  opened : (x : Parts) → parts_of m ≡ x → puts (shown_to n r m) p ≡ puts (parts_shown (λ v. shown_to (n - 1) r v) r m x) p
  unfolding shown_to
  opened x c = ap (λ k. puts (shown_to k r m) p) (some_more n h) ∙ ap (λ x. puts (parts_shown (λ v. shown_to (n - 1) r v) r m x) p) c

  pub nested_list : (o : Row) → parts_of m ≡ Parts.Elements o → puts (shown_to n r m) p ≡ put 93 (puts (elements_shown (λ v. shown_to (n - 1) r v) r o.space o.first o.length) (puts (ascii "List [") p))
  nested_list o c =
      opened (Parts.Elements o) c
      ∙ puts_joined (ascii "List [" ++ elements_shown (λ v. shown_to (n - 1) r v) r o.space o.first o.length) (93 ∷ []) p
      ∙ puts_one 93 _
      ∙ ap (put 93) (puts_joined (ascii "List [") (elements_shown (λ v. shown_to (n - 1) r v) r o.space o.first o.length) p)

  pub nested_map : (o : Row) → parts_of m ≡ Parts.Entries o → puts (shown_to n r m) p ≡ put 125 (puts (entries_shown (λ v. shown_to (n - 1) r v) r o.space o.first o.length) (puts (ascii "Map {") p))
  nested_map o c =
      opened (Parts.Entries o) c
      ∙ puts_joined (ascii "Map {" ++ entries_shown (λ v. shown_to (n - 1) r v) r o.space o.first o.length) (125 ∷ []) p
      ∙ puts_one 125 _
      ∙ ap (put 125) (puts_joined (ascii "Map {") (entries_shown (λ v. shown_to (n - 1) r v) r o.space o.first o.length) p)

  pub nested_present : (s : CellSpace) (a : ℕ) → parts_of m ≡ Parts.Present s a → puts (shown_to n r m) p ≡ puts (shown_to (n - 1) r (cell_at r s a)) (puts (ascii "Optional of ") p)
  nested_present s a c = opened (Parts.Present s a) c ∙ puts_joined (ascii "Optional of ") (shown_to (n - 1) r (cell_at r s a)) p

  pub nested_plain : parts_of m ≡ Parts.Nothing → puts (shown_to n r m) p ≡ puts (shown_seen (seen_plain r (plain_of m))) p
  unfolding seen_in
  nested_plain c = opened Parts.Nothing c

-- A cell gives back the value that was written into it, and every other cell its own. Assumes nothing.
use mathlib.Core.Path.{◌≡◌, refl, ap, ap₂, ◌∙◌}
use mathlib.Core.Logic.{◌≢◌}
use mathlib.Core.Bool.{Bool, true, false, cond}
use mathlib.Core.List.{List}
use Prim.Native.Nat.{ℕ, ◌+◌, ◌*◌, ◌/◌, ◌%◌, ◌^◌, ◌<◌}
use native.Mathlib.Omega.{arith}
use lib.Signed.{mag}
use lib.ListN.{length, get_or, set, length-set}
use lib.Seq.{get_or-set_same, get_or-set_other}
use lib.Dec.{ltb}
use borrow.Author.Tests.{lt-ltb, le-ltb}
use Rattle.rooms.specs.declared.value.Value.{Value}
use Rattle.rooms.specs.declared.value.TextSpace.{TextSpace}
use Rattle.rooms.specs.declared.value.TextSpace.TheVariants as Text
use Rattle.rooms.specs.declared.value.CellSpace.{CellSpace}
use Rattle.rooms.specs.declared.value.CellSpace.TheVariants as Cells
use Rattle.rooms.specs.Cells.{text_number, cell_number, packed, head_of, payload_of, text_place, cell_place, bare_of, text_of, container_of, value_of, cell_of, has_cell, cell_in, written_in, Fits, settled}
use Rattle.rooms.proofs.Words.{signed_back, text-small, cell-small}
use Rattle.std.specs.Prelude.{Some}
use Rattle.rooms.specs.Spans.{span, row}

-- the fields of a head that was packed
unpacked : (k s d n x : ℕ) → k < 256 → s < 256 → d < 256 → cell_of (packed k s d n) x ≡ value_of (packed k s d n) k s d n x
unfolding cell_of packed
unpacked k s d n x a b c = λ i. value_of (packed k s d n) (kind i) (space i) (nesting i) (size i) x
  where
    kind : packed k s d n % 256 ≡ k
    kind = omega arith

    space : packed k s d n / 256 % 256 ≡ s
    space = omega arith

    nesting : packed k s d n / 65536 % 256 ≡ d
    nesting = omega arith

    size : packed k s d n / 16777216 ≡ n
    size = omega arith

text-place : (s : TextSpace) (a n : ℕ) → a < 65536 → n < 65536 → text_place (text_number s) a n ≡ Some (span s a n)
unfolding text_place
text-place Text.Literal a n p q = simp (le-ltb 65535 a (omega arith), le-ltb 65535 n (omega arith))
text-place Text.Binding a n p q = simp (le-ltb 65535 a (omega arith), le-ltb 65535 n (omega arith))
text-place Text.Evaluation a n p q = simp (le-ltb 65535 a (omega arith), le-ltb 65535 n (omega arith))

cell-place : (s : CellSpace) (a n : ℕ) → a < 65536 → n < 65536 → cell_place (cell_number s) a n ≡ Some (row s a n)
unfolding cell_place
cell-place Cells.Binding a n p q = simp (le-ltb 65535 a (omega arith), le-ltb 65535 n (omega arith))
cell-place Cells.Evaluation a n p q = simp (le-ltb 65535 a (omega arith), le-ltb 65535 n (omega arith))

-- what reading back asks of a value: its numbers lie within their fields
abbrev pub Small : Value → Type 0
Small Value.Null = Unit {0}
Small (Value.Bool b) = Unit {0}
Small (Value.Int z) = mag z < 2 ^ 63
Small (Value.Uint n) = Unit {0}
Small (Value.Double x) = Unit {0}
Small (Value.Nan b) = Unit {0}
Small (Value.String sp) = (sp.first < 2 ^ 16) × (sp.length < 2 ^ 16)
Small (Value.Bytes sp) = (sp.first < 2 ^ 16) × (sp.length < 2 ^ 16)
Small (Value.List d ro) = (d < 2 ^ 8) × (ro.first < 2 ^ 16) × (ro.length < 2 ^ 16)
Small (Value.Map d ro) = (d < 2 ^ 8) × (ro.first < 2 ^ 16) × (ro.length < 2 ^ 16)
Small Value.OptionalNone = Unit {0}
Small (Value.OptionalOf d s a) = (d < 2 ^ 8) × (a < 2 ^ 16)
Small Value.Absent = Unit {0}

pub small-back : (v : Value) → Small v → cell_of (head_of v) (payload_of v) ≡ settled v
unfolding cell_of value_of bare_of text_of container_of
small-back Value.Null f = refl
small-back (Value.Bool true) f = refl
small-back (Value.Bool false) f = refl
small-back (Value.Int z) f = ap Value.Int (signed_back z f)
small-back (Value.Uint n) f = refl
small-back (Value.Double x) f = refl
small-back (Value.Nan b) f = refl
small-back (Value.String sp) f = unpacked 5 (text_number sp.space) 0 sp.length sp.first (omega arith) (text-small sp.space) (omega arith) ∙ ap (text_of 5 0) (text-place sp.space sp.first sp.length f.0 f.1)
small-back (Value.Bytes sp) f = unpacked 6 (text_number sp.space) 0 sp.length sp.first (omega arith) (text-small sp.space) (omega arith) ∙ ap (text_of 6 0) (text-place sp.space sp.first sp.length f.0 f.1)
small-back (Value.List d ro) f = unpacked 12 (cell_number ro.space) d ro.length ro.first (omega arith) (cell-small ro.space) f.0 ∙ ap (container_of 12 d) (cell-place ro.space ro.first ro.length f.1 f.2) ∙ simp (le-ltb 255 d (omega (arith, f.0)))
small-back (Value.Map d ro) f = unpacked 13 (cell_number ro.space) d ro.length ro.first (omega arith) (cell-small ro.space) f.0 ∙ ap (container_of 13 d) (cell-place ro.space ro.first ro.length f.1 f.2) ∙ simp (le-ltb 255 d (omega (arith, f.0)))
small-back Value.OptionalNone f = refl
small-back (Value.OptionalOf d s a) f = unpacked 15 (cell_number s) d 0 a (omega arith) (cell-small s) f.0 ∙ ap (container_of 15 d) (cell-place s a 0 f.1 (omega arith)) ∙ simp (le-ltb 255 d (omega (arith, f.0)))
small-back Value.Absent f = refl

fits-small : (v : Value) → Fits v → Small v
fits-small Value.Null f = tt
fits-small (Value.Bool b) f = tt
fits-small (Value.Int z) f = f
fits-small (Value.Uint n) f = tt
fits-small (Value.Double x) f = tt
fits-small (Value.Nan b) f = tt
fits-small (Value.String sp) f = f
fits-small (Value.Bytes sp) f = f
fits-small (Value.List d ro) f = f
fits-small (Value.Map d ro) f = f
fits-small Value.OptionalNone f = tt
fits-small (Value.OptionalOf d s a) f = f
fits-small Value.Absent f = tt

-- Reading what was written gives the value back, for every value that fits: a Double by its bits.
pub read_back : (v : Value) → Fits v → cell_of (head_of v) (payload_of v) ≡ settled v
read_back v f = small-back v (fits-small v f)

-- ---- in a list of words

pub written-length : (w : List ℕ) (i : ℕ) (v : Value) → length (written_in w i v) ≡ length w
unfolding written_in
written-length w i v = go (has_cell w i)
  where
    go : (b : Bool) → length (cond b (set (set w (i * 2) (head_of v)) (i * 2 + 1) (payload_of v)) w) ≡ length w
    go true = length-set (set w (i * 2) (head_of v)) (i * 2 + 1) (payload_of v) ∙ length-set w (i * 2) (head_of v)
    go false = refl

-- the cell that was written holds its two words
pub written-words : (w : List ℕ) (i : ℕ) (v : Value) → i < length w / 2 → cell_in (written_in w i v) i ≡ cell_of (head_of v) (payload_of v)
unfolding cell_in written_in
written-words w i v h =
    ap (λ (n : ℕ). cond (ltb i (n / 2)) (cell_of (get_or (written_in w i v) (i * 2) 0) (get_or (written_in w i v) (i * 2 + 1) 0)) Value.Absent) (written-length w i v)
    ∙ rw (lt-ltb i (length w / 2) h) (ap₂ cell_of first second)
  where
    first : get_or (set (set w (i * 2) (head_of v)) (i * 2 + 1) (payload_of v)) (i * 2) 0 ≡ head_of v
    first = get_or-set_other (set w (i * 2) (head_of v)) (i * 2 + 1) (i * 2) (payload_of v) 0 (omega arith) ∙ get_or-set_same w (i * 2) (head_of v) 0 (omega arith)

    second : get_or (set (set w (i * 2) (head_of v)) (i * 2 + 1) (payload_of v)) (i * 2 + 1) 0 ≡ payload_of v
    second = get_or-set_same (set w (i * 2) (head_of v)) (i * 2 + 1) (payload_of v) 0 (omega (arith, length-set w (i * 2) (head_of v)))

-- The cell that was written holds the value.
pub written_same : (w : List ℕ) (i : ℕ) (v : Value) → i < length w / 2 → Fits v → cell_in (written_in w i v) i ≡ settled v
written_same w i v h f = written-words w i v h ∙ read_back v f

-- Every other cell is as it was.
pub written-other : (w : List ℕ) (i j : ℕ) (v : Value) → j ≢ i → cell_in (written_in w i v) j ≡ cell_in w j
unfolding cell_in written_in
written-other w i j v d = go (has_cell w i)
  where
    word : (k : ℕ) → k ≢ i * 2 + 1 → k ≢ i * 2 → get_or (set (set w (i * 2) (head_of v)) (i * 2 + 1) (payload_of v)) k 0 ≡ get_or w k 0
    word k a b = get_or-set_other (set w (i * 2) (head_of v)) (i * 2 + 1) k (payload_of v) 0 a ∙ get_or-set_other w (i * 2) k (head_of v) 0 b

    long : length (set (set w (i * 2) (head_of v)) (i * 2 + 1) (payload_of v)) ≡ length w
    long = length-set (set w (i * 2) (head_of v)) (i * 2 + 1) (payload_of v) ∙ length-set w (i * 2) (head_of v)

    go : (b : Bool) → cell_in (cond b (set (set w (i * 2) (head_of v)) (i * 2 + 1) (payload_of v)) w) j ≡ cell_in w j
    go true = λ k. cond (ltb j (long k / 2)) (cell_of (word (j * 2) (omega arith) (omega arith) k) (word (j * 2 + 1) (omega arith) (omega arith) k)) Value.Absent
    go false = refl

-- Two cells of the same words are the same cell.
pub cell_same : (w u : List ℕ) (i : ℕ) → length w ≡ length u → get_or w (i * 2) 0 ≡ get_or u (i * 2) 0 → get_or w (i * 2 + 1) 0 ≡ get_or u (i * 2 + 1) 0 →
    cell_in w i ≡ cell_in u i
unfolding cell_in
cell_same w u i e p q = λ k. cond (ltb i (e k / 2)) (cell_of (p k) (q k)) Value.Absent

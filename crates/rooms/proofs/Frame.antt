-- The frame law: rooms that agree on what a value reaches hold the same value. Assumes nothing.
use Prim.Native.Nat.{ℕ, zero, suc, ◌+◌, ◌≤◌, ◌<◌}
use mathlib.Core.Path.{◌≡◌, refl, sym, ap, ◌∙◌, subst}
use mathlib.Core.List.{List, [], ◌∷◌}
use native.Mathlib.Omega.{arith}
use lib.ListN.{length, get_or, take}
use lib.Seq.{take-take, drop-cons}
use Rattle.meaning.specs.Value as Meaning
use Rattle.meaning.specs.Value.{null, bool, int, uint, double, string, bytes, scalar, list, map, optional_none, optional_of, nil, cons, empty, entry, key_scalar}
use Rattle.rooms.specs.declared.value.Value.{Value}
use Rattle.rooms.specs.declared.value.TextSpace.{TextSpace}
use Rattle.rooms.specs.declared.value.TextSpace.TheVariants as Text
use Rattle.rooms.specs.declared.value.CellSpace.{CellSpace}
use Rattle.rooms.specs.Rooms.{Rooms, cell_at, part}
use Rattle.rooms.specs.Stands.{Alive, TextAt, StandsScalar, Stands, StandsCells, StandsEntries, Holds, Agrees}

-- a part of a list lies in any longer beginning of it
pub part_of : (t a n : ℕ) (l : List ℕ) → a + n ≤ t → part (take t l) a n ≡ part l a n
part_of t zero n l h = take-take n t l (omega arith)
part_of zero (suc a) n l h = absurd (omega arith)
part_of (suc t) (suc a) n [] h = refl
part_of (suc t) (suc a) n (x ∷ l) h = part_of t a n l (omega arith)

pub part_same : (t a n : ℕ) (l k : List ℕ) → a + n ≤ t → take t k ≡ take t l → part k a n ≡ part l a n
part_same t a n l k h e = sym (part_of t a n k h) ∙ ap (λ x. part x a n) e ∙ part_of t a n l h

-- the first byte of a part, and the rest
pub part-first : (t : List ℕ) (a n : ℕ) → a < length t → part t a (suc n) ≡ get_or t a 0 ∷ part t (suc a) n
part-first t a n h = ap (take (suc n)) (drop-cons t a 0 h)

module _ (L M : Alive) (r q : Rooms) (g : Agrees L M r q) where
  pub text-frame : (s : List ℕ) (space : TextSpace) (a : ℕ) → TextAt s L r space a → TextAt s M q space a
  text-frame s Text.Literal a h = record { within = tt; spells = ap (λ l. part l a (length s)) g.literals ∙ h.spells }
  text-frame s Text.Binding a h = record { within = tt; spells = ap (λ l. part l a (length s)) g.binding_texts ∙ h.spells }
  text-frame s Text.Evaluation a h = record { within = omega (arith, h.within, g.longer); spells = part_same L.bytes a (length s) r.text q.text h.within g.texts ∙ h.spells }

  pub scalar-frame : (x : Meaning.Scalar) (m : Value) → StandsScalar x L r m → StandsScalar x M q m
  unfolding StandsScalar
  scalar-frame null m h = h
  scalar-frame (bool b) m h = h
  scalar-frame (int z) m h = h
  scalar-frame (uint n) m h = h
  scalar-frame (double d) m h = h
  scalar-frame (string s) m h = (h.0, h.1, h.2, text-frame s h.0 h.1 h.3)
  scalar-frame (bytes s) m h = (h.0, h.1, h.2, text-frame s h.0 h.1 h.3)

  -- the value that a live cell holds, in the other rooms
  moved : (v : Meaning.Value) (space : CellSpace) (i : ℕ) → L.cells space i → Stands v M q (cell_at r space i) → Stands v M q (cell_at q space i)
  moved v space i l h = subst (λ x. Stands v M q x) (sym (g.same space i l)) h

  key-moved : (x : Meaning.Scalar) (space : CellSpace) (i : ℕ) → L.cells space i → StandsScalar x L r (cell_at r space i) → StandsScalar x M q (cell_at q space i)
  key-moved x space i l h = subst (λ y. StandsScalar x M q y) (sym (g.same space i l)) (scalar-frame x (cell_at r space i) h)

  mutual
    unfolding Stands

    pub frame : (v : Meaning.Value) (m : Value) → Stands v L r m → Stands v M q m
    frame (scalar x) m h = scalar-frame x m h
    frame (list vs) m h = (h.0, h.1, h.2, frame-cells vs h.0 h.1 h.3)
    frame (map es) m h = (h.0, h.1, h.2, frame-entries es h.0 h.1 h.3)
    frame optional_none m h = h
    frame (optional_of v) m h = (h.0, h.1, h.2, g.sub h.0 h.1 h.3, moved v h.0 h.1 h.3 (frame v (cell_at r h.0 h.1) h.4))

    pub frame-cells : (vs : Meaning.Values) (space : CellSpace) (a : ℕ) → StandsCells vs L r space a → StandsCells vs M q space a
    frame-cells nil space a h = tt
    frame-cells (cons v vs) space a h = (g.sub space a h.0, moved v space a h.0 (frame v (cell_at r space a) h.1), frame-cells vs space (suc a) h.2)

    pub frame-entries : (es : Meaning.Entries) (space : CellSpace) (a : ℕ) → StandsEntries es L r space a → StandsEntries es M q space a
    frame-entries empty space a h = tt
    frame-entries (entry k v es) space a h =
        (g.sub space a h.0, key-moved (key_scalar k) space a h.0 h.1, g.sub space (suc a) h.2, moved v space (suc a) h.2 (frame v (cell_at r space (suc a)) h.3), frame-entries es space (suc (suc a)) h.4)

-- Rooms that agree on the cells and the text that a value reaches hold the same value.
pub holds_frame : (L M : Alive) (r q : Rooms) → Agrees L M r q → (v : Meaning.Value) (m : Value) → Holds v L r m → Holds v M q m
holds_frame L M r q g v m h = record { stands = frame L M r q g v m h.stands; fits = h.fits; nests = h.nests }

-- Text that is copied behind the text there is: no other byte changes, and it spells the same. Rests on Keeping. Assumes nothing.
use Prim.Native.Nat.{ℕ, zero, suc, ◌+◌, ◌≤◌, ◌<◌}
use mathlib.Core.Path.{◌≡◌, refl, ap, ap₂, ◌∙◌, subst}
use mathlib.Core.List.{List, [], ◌∷◌, ◌++◌}
use native.Mathlib.Omega.{arith}
use lib.ListN.{length, get_or, set, drop, length-take, length-drop}
use lib.Seq.{drop-set-lt}
use Rattle.meaning.specs.Limits.{Counts}
use Rattle.rooms.specs.declared.value.TextSpace.{TextSpace}
use Rattle.rooms.specs.declared.value.TextSpace.TheVariants as Text
use Rattle.rooms.specs.Rooms.{Rooms, part, text_of, cell_at}
use Rattle.rooms.specs.Stands.{Alive, Within, TextAt}
use Rattle.rooms_taking.specs.Taking.{pasted}
use Rattle.rooms.proofs.Frame.{part_same, text-frame}
use Rattle.rooms_taking.proofs.Pasted.{Ahead, pasted_below, pasted_length, pasted-part}
use Rattle.machine.specs.Outcomes.{with_text}
use Rattle.machine.specs.Numbers.{both_texts}
use Rattle.machine.specs.Refines.{FitCells, Live, Roomy, Keeps, Below}
use Rattle.machine.proofs.Keeping.{keeps_then, keeps-agrees, roomy-same, live_below}
use Rattle.machine.proofs.Traces.{part-add}
use Rattle.machine.proofs.Charges.{wrote}

module _ (l b : List ℕ) where
  pasted-drop : (space : TextSpace) (t : List ℕ) (a to n k : ℕ) → to + n ≤ k → drop k (pasted l b space t a to n) ≡ drop k t
  unfolding pasted
  pasted-drop space t a to zero k h = refl
  pasted-drop space t a to (suc n) k h = pasted-drop space (set t to (get_or (text_of l b t space) a 0)) (suc a) (suc to) n k (omega arith) ∙ drop-set-lt k t to (get_or (text_of l b t space) a 0) (omega arith)

-- ---- in rooms

-- n bytes of a space from a on, to the evaluation's text from `to` on
abbrev pub pasted_to : Rooms → TextSpace → (a to n : ℕ) → Rooms
pasted_to r space a to n = with_text r (pasted r.literal r.binding_text space r.text a to n)

text-fits : (r : Rooms) (t : List ℕ) → FitCells r → FitCells (with_text r t)
unfolding cell_at
text-fits r t w space i = w space i

pub paste-keeps : (u : Counts) (r : Rooms) (space : TextSpace) (a n : ℕ) → Roomy (wrote u n) r → Keeps u (wrote u n) r (pasted_to r space a u.bytes n)
paste-keeps u r space a n f =
    record {
      literals = refl;
      binding_cells = refl;
      binding_texts = refl;
      sized = refl;
      low = refl;
      high = refl;
      text_sized = pasted_length r.literal r.binding_text space r.text a u.bytes n;
      text_low = pasted_below r.literal r.binding_text space r.text a u.bytes n u.bytes (omega arith);
      text_high = pasted-drop r.literal r.binding_text space r.text a u.bytes n (u.bytes + n) (omega arith);
      grows = record { cells = omega arith; bytes = omega arith };
      fits = f;
      fitting = text-fits r (pasted r.literal r.binding_text space r.text a u.bytes n);
    }

-- a text is as long as it is where it lies
text-inside : (s x : List ℕ) (a : ℕ) → part x a (length s) ≡ s → 0 < length s → a + length s ≤ length x
text-inside s x a e h = omega (arith, ap length e, length-take (length s) (drop a x), length-drop a x)

ahead_of : (L : Alive) (u : Counts) (space : TextSpace) (n : ℕ) → Below L u → Within L space n → Ahead space n u.bytes
ahead_of L u Text.Literal n b h = tt
ahead_of L u Text.Binding n b h = tt
ahead_of L u Text.Evaluation n b h = omega (arith, b.bytes)

-- the copy spells what it is a copy of
pub paste-spells : (s : List ℕ) (L : Alive) (u : Counts) (r : Rooms) (space : TextSpace) (a : ℕ) → Below L u → Roomy (wrote u (length s)) r → TextAt s L r space a → part (pasted_to r space a u.bytes (length s)).text u.bytes (length s) ≡ s
paste-spells [] L u r space a b f h = refl
paste-spells (x ∷ s) L u r space a b f h =
    pasted-part r.literal r.binding_text space r.text a u.bytes (length (x ∷ s)) (omega (arith, f.bytes)) (text-inside (x ∷ s) (text_of r.literal r.binding_text r.text space) a h.spells (omega arith)) (ahead_of L u space (a + length (x ∷ s)) b h.within) ∙ h.spells

-- two texts, one behind the other
module _ (v w : List ℕ) (L : Alive) (u : Counts) (r : Rooms) (x y : TextSpace) (a c : ℕ) (b : Below L u) (f : Roomy (wrote u (length v + length w)) r) (hv : TextAt v L r x a) (hw : TextAt w L r y c) where
  abbrev one : Counts
  one = wrote u (length v)

  abbrev q : Rooms
  q = pasted_to r x a u.bytes (length v)

  abbrev p : Rooms
  p = pasted_to q y c (u.bytes + length v) (length w)

  first : Keeps u one r q
  first = paste-keeps u r x a (length v) (record { cells = f.cells; bytes = omega (arith, f.bytes) })

  room-left : Roomy (wrote one (length w)) q
  room-left = roomy-same (wrote one (length w)) r q first.sized first.text_sized (record { cells = f.cells; bytes = omega (arith, f.bytes) })

  second : Keeps one (wrote one (length w)) q p
  second = paste-keeps one q y c (length w) room-left

  assoc : (i j k : ℕ) → i + j + k ≡ i + (j + k)
  assoc i j k = omega arith

  pub both-keep : Keeps u (wrote u (length v + length w)) r (with_text r (both_texts r u.bytes x a (length v) y c (length w)))
  both-keep = subst (λ n. Keeps u (record { steps = u.steps; cells = u.cells; bytes = n }) r p) (assoc u.bytes (length v) (length w)) (keeps_then u one (wrote one (length w)) r q p first second)

  pub both-spell : part (both_texts r u.bytes x a (length v) y c (length w)) u.bytes (length v + length w) ≡ v ++ w
  both-spell =
      part-add p.text u.bytes (length v) (length w)
      ∙ ap₂ (λ s z. s ++ z)
      (part_same one.bytes u.bytes (length v) q.text p.text (omega arith) second.text_low ∙ paste-spells v L u r x a b (record { cells = f.cells; bytes = omega (arith, f.bytes) }) hv)
      (paste-spells w (Live L u one) one q y c (live_below L u one b first.grows) room-left (text-frame L (Live L u one) r q (keeps-agrees L u one r q b first) w y c hw))

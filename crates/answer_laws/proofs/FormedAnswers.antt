-- Whatever is lent, a value that `evaluate` answers is well formed. In order: what stands in words is fine; the scope that a sound room holds; a
-- run under limits; the theorem. Rests on Verdicts (crate bindings_laws) and on what evaluation keeps (crate meaning_laws). Assumes nothing.
use Prim.Native.Nat.{ℕ, suc, ◌/◌, ◌≤◌}
use mathlib.Core.Path.{◌≡◌, refl, sym, ◌∙◌, subst}
use mathlib.Core.List.{List, []}
use Rattle.std.specs.Prelude.{Option, None, Some}
use native.Mathlib.Omega.{arith}
use lib.ListN.{length}
use Rattle.meaning.specs.Limits.{Counts, most_cells, most_bytes, deepest_value, cut, nothing_yet}
use Rattle.meaning.specs.Errors.{ErrorAt}
use Rattle.meaning.specs.Expr.{Expr}
use Rattle.meaning.specs.Value as Meaning
use Rattle.meaning.specs.Value.{Scalar, null, bool, int, uint, double, string, bytes, scalar, list, map, optional_none, optional_of, nil, cons, empty, entry, key_scalar, nesting, nesting_in, nesting_over}
use Rattle.meaning.specs.Run.{Result, Eval}
use Rattle.meaning.specs.Meaning.{run}
use Rattle.meaning.specs.Limited as Limited
use Rattle.meaning.specs.Limited.{Spent, through, stopped, spend, ended, outcome, limited}
use Rattle.meaning.specs.Heads.{Got, got, refused}
use Rattle.meaning.specs.Table.{read_table}
use Rattle.meaning.specs.Bindings.{text_bytes, scope_of}
use Rattle.meaning.specs.Answer as Answers
use Rattle.meaning.specs.Answer.{refusal, ran, answer_run, answer_read}
use Rattle.meaning.specs.WellFormed.{AllBytes, SoundScalar, Sound, SoundElements, SoundEntries, WellFormed}
use Rattle.meaning_laws.specs.Each.{Each}
use Rattle.meaning_laws.proofs.Fine.{FineScalar, Fine, FineElements, FineEntries, Perhaps, fine-well-formed}
use Rattle.meaning_laws.proofs.Kept.{Modest, Any, Gives, KeepsEval}
use Rattle.meaning_laws.proofs.KeptLoop.{FineScope}
use Rattle.meaning_laws.proofs.KeptEvaluation.{run-kept}
use Rattle.meaning_laws.proofs.KeptLimits.{spent-modest}
use Rattle.meaning_laws.proofs.TableFormed.{accepted-table-formed}
use Rattle.rooms.specs.declared.value.Value.{Value}
use Rattle.rooms.specs.declared.value.CellSpace.{CellSpace}
use Rattle.rooms.specs.Cells.{Fits}
use Rattle.rooms.specs.Rooms.{Rooms, cell_at}
use Rattle.rooms.specs.Stands.{Alive, StandsScalar, Stands, StandsCells, StandsEntries}
use Rattle.rooms.specs.Scope.{slot_of, StandsSlot}
use Rattle.bindings_sound.specs.declared.Bindings.{Bindings}
use Rattle.std.specs.Prelude.{Ok}
use Rattle.bindings_sound.specs.Sound.{sound_of}
use Rattle.bindings_sound.specs.Held.{binding_rooms, held_scope, alive_below}
use Rattle.bindings_sound.proofs.SoundScope.{sound-scope, room-scope}
use Rattle.machine.specs.Refines.{FitCells}
use Rattle.machine.proofs.AnyCells.{words-fit}
use Rattle.bindings_laws.specs.Verdicts.{Lent}
use Rattle.bindings_laws.proofs.Verdicts.{sound-formed}
use Rattle.answer.specs.declared.Answer.{Answer}
use Rattle.answer.specs.Evaluated.{accepted}
use Rattle.answer.proofs.Answering.{was-accepted}
use Rattle.answer.specs.Meant.{Told, told, told_by, Says, limits, bound, meant, Evaluates}

-- ---- what stands in words is fine

-- lengths in words are below 2 ^ 16
module _ (L : Alive) (r : Rooms) (cells : FitCells r) where
  scalar-fine : (x : Scalar) (m : Value) → StandsScalar x L r m → Fits m → SoundScalar x → FineScalar x
  unfolding StandsScalar text_bytes
  scalar-fine null m h f s = (s, omega arith)
  scalar-fine (bool b) m h f s = (s, omega arith)
  scalar-fine (int z) m h f s = (s, omega arith)
  scalar-fine (uint n) m h f s = (s, omega arith)
  scalar-fine (double d) m h f s = (s, omega arith)
  scalar-fine (string t) m h f s = let g = subst Fits h.2 f in (s, omega (arith, g.1))
  scalar-fine (bytes t) m h f s = let g = subst Fits h.2 f in (s, omega (arith, g.1))

  mutual
    unfolding Stands nesting

    value-fine : (v : Meaning.Value) (m : Value) → Stands v L r m → Fits m → Sound v → nesting v ≤ deepest_value → Fine v
    value-fine (scalar x) m h f s n = scalar-fine x m h f s
    value-fine (list vs) m h f s n = let g = subst Fits h.2 f in (n, omega (arith, g.2), elements-fine vs h.0 h.1 h.3 s (omega (arith, n)))
    value-fine (map es) m h f s n = let g = subst Fits h.2 f in (n, omega (arith, g.2), entries-fine es h.0 h.1 h.3 s (omega (arith, n)))
    value-fine optional_none m h f s n = tt
    value-fine (optional_of v) m h f s n = (n, value-fine v (cell_at r h.0 h.1) h.4 (cells h.0 h.1) s (omega (arith, n)))

    elements-fine : (vs : Meaning.Values) (space : CellSpace) (a : ℕ) → StandsCells vs L r space a → SoundElements vs → nesting_in vs ≤ deepest_value → FineElements vs
    elements-fine nil space a h s n = tt
    elements-fine (cons v vs) space a h s n =
        (value-fine v (cell_at r space a) h.1 (cells space a) s.0 (omega (arith, n)), elements-fine vs space (suc a) h.2 s.1 (omega (arith, n)))

    entries-fine : (es : Meaning.Entries) (space : CellSpace) (a : ℕ) → StandsEntries es L r space a → SoundEntries es → nesting_over es ≤ deepest_value → FineEntries es
    entries-fine empty space a h s n = tt
    entries-fine (entry k v es) space a h s n = (
      scalar-fine (key_scalar k) (cell_at r space a) h.1 (cells space a) s.0,
      value-fine v (cell_at r space (suc a)) h.3 (cells space (suc a)) s.1 (omega (arith, n)),
      s.2,
      entries-fine es space (suc (suc a)) h.4 s.3 (omega (arith, n)),
    )

-- ---- the scope that a sound room holds

module _ (w t : List ℕ) (b : Bindings) (lent : Lent w t b) (sound : sound_of w t b ≡ Ok tt) where
  slot-fine : (o : Option Meaning.Value) (m : Value) → StandsSlot o (alive_below b.cells) (binding_rooms w t) m → ((v : Meaning.Value) → o ≡ Some v → WellFormed v) → Perhaps Fine o
  slot-fine None m h f = tt
  slot-fine (Some v) m h f =
      value-fine (alive_below b.cells) (binding_rooms w t) (words-fit (binding_rooms w t) (λ j. omega arith) lent.words) v m h.stands h.fits (f v refl).sound h.nests

  -- What a sound room holds is fine.
  pub held-fine : FineScope (held_scope w t b)
  held-fine n =
      slot-fine (held_scope w t b n) (slot_of b.scope n) ((sound-scope w t b sound lent.slots lent.values [] [] []).each n) (λ v e. sound-formed w t b lent sound n v e)

-- ---- a run under limits

value-kept : (lent : Counts) (r : Eval Meaning.Value) → KeepsEval Fine r → (v : Meaning.Value) (c : Counts) → limited (cut lent) r ≡ Limited.value v c → Fine v
unfolding limited outcome ended
value-kept lent r k v c e = by-spent (spend (cut lent) r.0 nothing_yet) (spent-modest (cut lent) few.0 few.1 r.0 nothing_yet) r.1 k.gives e
  where
    few : ((cut lent).cells ≤ most_cells) × ((cut lent).bytes ≤ most_bytes)
    few = unfold cut in omega arith

    by-spent : (y : Spent) → ((d : Counts) → y ≡ through d → Each Modest r.0) → (x : Result ErrorAt Meaning.Value) → (Each Modest r.0 → Gives Any Fine x)
        → outcome x y ≡ Limited.value v c → Fine v
    by-spent (through d) m (Result.value u) g f = let same : u ≡ v = cc in subst Fine same (g (m d refl))
    by-spent (through d) m (Result.error u) g f = let z : ◌≡◌ {A = ℕ} 0 1 = cc in absurd (omega arith)
    by-spent (stopped x d) m u g f = let z : ◌≡◌ {A = ℕ} 0 1 = cc in absurd (omega arith)

-- ---- the theorem

told-value : (a : Answers.Answer) (v : Meaning.Value) (c : Counts) → told_by a ≡ Told.value (Some v) c → a ≡ ran (Limited.value v c)
told-value (refusal why place) v c h = let z : ◌≡◌ {A = ℕ} 0 1 = cc in absurd (omega arith)
told-value (ran (Limited.value u d)) v c h = cc
told-value (ran (Limited.error e d)) v c h = let z : ◌≡◌ {A = ℕ} 0 1 = cc in absurd (omega arith)
told-value (ran (Limited.exhausted y d)) v c h = let z : ◌≡◌ {A = ℕ} 0 1 = cc in absurd (omega arith)

module _ (table : List ℕ) (bindings : Bindings) (steps : ℕ) (lent : Rooms) (table_bytes : AllBytes table) (literal_bytes : AllBytes lent.literal)
    (room : Lent lent.binding_cells lent.binding_text bindings) where
  meant-formed : (g : Got Expr) → accepted table bindings lent ≡ g → (v : Meaning.Value) (c : Counts)
      → (answer_read (limits steps lent) (scope_of (bound bindings lent)) g).answer ≡ ran (Limited.value v c) → WellFormed v
  unfolding accepted answer_read answer_run
  meant-formed (refused why p) a v c h = let z : ◌≡◌ {A = ℕ} 0 1 = cc in absurd (omega arith)
  meant-formed (got e) a v c h =
      let s = was-accepted (read_table table lent.literal) (sound_of lent.binding_cells lent.binding_text bindings) e a in
      let formed = accepted-table-formed table lent.literal table_bytes literal_bytes e s.0 in
      let fine : FineScope (scope_of (bound bindings lent)) =
      λ n. subst (Perhaps Fine) (sym (room-scope lent.binding_cells lent.binding_text bindings room.slots n)) (held-fine lent.binding_cells lent.binding_text bindings room s.1 n) in
      let same : limited (limits steps lent) (run e (scope_of (bound bindings lent))) ≡ Limited.value v c = cc in
      fine-well-formed v (value-kept (record { steps = steps; cells = length lent.cells / 2; bytes = length lent.text }) (run e (scope_of (bound bindings lent))) (run-kept e formed (scope_of (bound bindings lent)) fine) v c same)

  -- of an answer that says what the definition says
  pub says-formed : (answer : Answer) (left : Rooms) → Says (meant table bindings steps lent) lent answer left → (v : Meaning.Value) (c : Counts) → told left answer ≡ Told.value (Some v) c
      → WellFormed v
  unfolding meant
  says-formed answer left h v c t =
      meant-formed (accepted table bindings lent) refl v c (told-value (meant table bindings steps lent).answer v c (sym h.tells ∙ t))

  -- A value that comes back is well formed, whatever table, binding room, limits and rooms are lent: numbers in range, Strings in UTF-8, no two
  -- keys of a Map that match, nesting at most 32.
  pub value-formed : (answer : Answer) (left : Rooms) → Evaluates table bindings steps lent answer left → (v : Meaning.Value) (c : Counts) → told left answer ≡ Told.value (Some v) c
      → WellFormed v
  value-formed answer left h v c t = says-formed answer left h.says v c t

-- List and Map records keep what evaluation keeps: their parts are fine, no two keys match, and there are no more parts than operands.
-- What was ready where an error ended the making is fine too. Rests on Kept. Assumes nothing.
use Prim.Native.Nat.{ℕ, suc, ◌*◌, ◌≤◌}
use mathlib.Core.Path.{◌≡◌, refl}
use mathlib.Core.List.{[], ◌∷◌}
use Rattle.std.specs.Prelude.{Option, None, Some}
use Rattle.meaning.specs.Options.{bind}
use mathlib.Core.Bool.{Bool, true, false}
use native.Mathlib.Omega.{arith}
use Rattle.meaning.specs.Limits.{deepest_value, most_cells}
use Rattle.meaning.specs.Value.{Key, key_scalar, key_of, scalar_of, Value, scalar, list, map, optional_none, optional_of, Values, nil, cons, Entries, nesting, count, count_entries}
use Rattle.meaning.specs.Run.{cells, nest, Result, value, error, Raised, Eval, Rule, charged, after}
use Rattle.meaning.specs.Comparison.{find}
use Rattle.meaning.specs.Optionals.{Unwrapped, NotOptional, PresentOptional, NoneOptional, unwrap_optional}
use Rattle.meaning.specs.Containers.{Making, keeping, having, ready_in, unmarked, kept, append, element_rule, add_new, insert, entry_rule, pair_rule, pad, cells_an_entry, entry_cells, finished, list_rule, map_rule, into}
use Rattle.meaning_laws.specs.Each.{Each}
use Rattle.meaning_laws.proofs.Fine.{FineScalar, Fine, FineElements, FineEntries, Perhaps, key-fine, join-fine, join-count, pad-fine, pad-count, cells-fine, add-fine, add-count}
use Rattle.meaning_laws.proofs.Kept.{Modest, modest-first, Any, Gives, Keeps, KeepsRule, KeepsEval, keeps-pure, keeps-error, keeps-charged, keeps-after, keeps-bind, keeps-fail, keeps-or_fail, keeps-operand, keeps-compared}
use Rattle.meaning_laws.proofs.KeptRules.{FineUnwrapped, unwrapped-fine}

-- ---- in the making

-- what was ready
abbrev pub Ready : {A : Type 0} → (A → Type 0) → A × Raised → Type 0
Ready P e = P e.0

having-kept : {A B : Type 0} (S : A → Type 0) {P : B → Type 0} (ready : A) {r : Rule B} → S ready → KeepsRule P r → Keeps (Ready S) P (having ready r)
unfolding having keeping
having-kept {A} {B} S {P} ready {r} s h = record { held = h.held; gives = λ m. go r.1 (h.gives m) }
  where
    go : (x : Result Raised B) → Gives Any P x → Gives (Ready S) P (keeping ready x)
    go (value b) p = p
    go (error e) q = s

unmarked-fine : (u : Unwrapped) → FineUnwrapped u → Perhaps Fine (unmarked u)
unfolding unmarked
unmarked-fine (NotOptional v) f = f
unmarked-fine (PresentOptional v) f = f
unmarked-fine NoneOptional f = tt

kept_fine : (marked : Bool) (v : Value) → Fine v → Perhaps Fine (kept marked v)
unfolding kept
kept_fine true v f = unmarked-fine (unwrap_optional v) (unwrapped-fine v f)
kept_fine false v f = f

-- ---- elements

-- fine, and no more than n
pub record FewElements (n : ℕ) (vs : Values) : Type 0 where
  pub fine : FineElements vs
  pub few : count vs ≤ n

append-few : (n : ℕ) (vs : Values) (o : Option Value) → FewElements n vs → Perhaps Fine o → FewElements (suc n) (append vs o)
unfolding append count
append-few n vs None f g = record { fine = f.fine; few = omega arith }
append-few n vs (Some v) f g =
    let e = join-count vs (cons v nil) in
    record { fine = join-fine vs (cons v nil) f.fine (g, tt); few = omega arith }

-- One element, marked or not, then the rest.
pub element-kept : {P : Values → Type 0} (n : ℕ) (marked : Bool) {r : Eval Value} {rest : Values → Making Values} (vs : Values)
    → FewElements n vs → KeepsEval Fine r → ((ws : Values) → FewElements (suc n) ws → Keeps (Ready FineElements) P (rest ws))
    → Keeps (Ready FineElements) P (element_rule marked r rest vs)
unfolding element_rule
element-kept n marked vs f h k =
    keeps-bind (having-kept FineElements vs f.fine (keeps-operand h))
    (λ v g. k (append vs (kept marked v)) (append-few n vs (kept marked v) f (kept_fine marked v g)))

-- ---- entries

pub record FewEntries (n : ℕ) (es : Entries) : Type 0 where
  pub fine : FineEntries es
  pub few : count_entries es ≤ n

add_new-kept : (n : ℕ) (es : Entries) (k : Key) (v : Value) (o : Option Value) → (find (key_scalar k) es).1 ≡ o → FewEntries n es
    → FineScalar (key_scalar k) → Fine v
    → KeepsRule (FewEntries (suc n)) (add_new es k v o)
unfolding add_new
add_new-kept n es k v None e f g h =
    let c = add-count es k v in
    keeps-pure _ (record { fine = add-fine es k v f.fine g h e; few = omega arith })
add_new-kept n es k v (Some w) e f g h = keeps-fail _

-- found under the key, or not
insert-kept : (n : ℕ) (es : Entries) (k : Key) (o : Option Value) → FewEntries n es → FineScalar (key_scalar k) → Perhaps Fine o
    → KeepsRule (FewEntries (suc n)) (insert es k o)
unfolding insert
insert-kept n es k None f g h = keeps-pure es (record { fine = f.fine; few = omega arith })
insert-kept n es k (Some v) f g h =
    keeps-bind (keeps-compared {P = λ o. (find (key_scalar k) es).1 ≡ o} (find (key_scalar k) es) refl) (λ o e. add_new-kept n es k v o e f g h)

key_of-fine : (v : Value) → Fine v → Perhaps (λ k. FineScalar (key_scalar k)) (key_of v)
unfolding key_of scalar_of bind
key_of-fine (scalar x) f = key-fine x f
key_of-fine (list vs) f = tt
key_of-fine (map es) f = tt
key_of-fine optional_none f = tt
key_of-fine (optional_of v) f = tt

entry_kept : (n : ℕ) (marked : Bool) {r s : Eval Value} (es : Entries) → FewEntries n es → KeepsEval Fine r → KeepsEval Fine s
    → KeepsRule (FewEntries (suc n)) (entry_rule marked r s es)
unfolding entry_rule
entry_kept n marked es f h k =
    keeps-bind (keeps-operand h)
    (λ v g. keeps-bind (keeps-or_fail _ (key_of v) (key_of-fine v g))
    (λ key g'. keeps-bind (keeps-operand k) (λ w g''. insert-kept n es key (kept marked w) f g' (kept_fine marked w g''))))

-- One entry, marked or not, then the rest: the duplicate test keeps keys apart.
pub pair-kept : {P : Entries → Type 0} (n : ℕ) (marked : Bool) {r s : Eval Value} {rest : Entries → Making Entries} (es : Entries)
    → FewEntries n es → KeepsEval Fine r → KeepsEval Fine s → ((fs : Entries) → FewEntries (suc n) fs → Keeps (Ready FineEntries) P (rest fs))
    → Keeps (Ready FineEntries) P (pair_rule marked r s rest es)
unfolding pair_rule
pair-kept n marked es f h k l = keeps-bind (having-kept FineEntries es f.fine (entry_kept n marked es f h k)) l

-- ---- the records

finished-kept : {A : Type 0} (S : A → Type 0) {P R : A → Type 0} (container : A → Value) → ((a : A) → P a → nesting (container a) ≤ deepest_value → R a)
    → (x : Result (A × Raised) A) → Gives (Ready S) P x → KeepsRule R (finished container x)
unfolding finished
finished-kept S container h (value a) p = keeps-charged (nest (nesting (container a)) ∷ []) (tt, tt) (λ m. keeps-pure a (h a p m.0))
finished-kept S container h (error e) q = keeps-error tt

-- cells that hold what was ready, then the parts, then their nesting
record-kept : {A : Type 0} (S : A → Type 0) {P R : A → Type 0} (container : A → Value) (in_cells : A → Values) (n : ℕ) {making : Making A}
    → ((a : A) → S a → FineElements (in_cells a)) → ((a : A) → P a → S a)
    → (n ≤ most_cells → (a : A) → P a → nesting (container a) ≤ deepest_value → R a)
    → Keeps (Ready S) P making → KeepsRule R (charged (cells (pad n (in_cells (ready_in making.1))) ∷ []) (after making (finished container)))
unfolding charged after ready_in
record-kept {A} S {P} {R} container in_cells n {making} inside weaker whole h =
    record {
      held = λ m. (pad-fine n (in_cells (ready_in making.1)) (inside _ (ready making.1 (h.gives (first m.1)))), (body (room m.0)).held m.1);
      gives = λ m. (body (room m.0)).gives m.1;
    }
  where
    first : Each Modest (after making (finished container)).0 → Each Modest making.0
    first m = modest-first making.0 _ m

    ready : (x : Result (A × Raised) A) → Gives (Ready S) P x → S (ready_in x)
    ready (value a) p = weaker a p
    ready (error e) s = s

    room : count (pad n (in_cells (ready_in making.1))) ≤ most_cells → n ≤ most_cells
    room c = let e = pad-count n (in_cells (ready_in making.1)) in omega arith

    body : n ≤ most_cells → KeepsRule R (after making (finished container))
    body c = keeps-after h (finished-kept S container (whole c))

-- A List record gives a fine list: its nesting is charged, and it has no more elements than cells are charged.
pub list-kept : (n : ℕ) {making : Making Values} → Keeps (Ready FineElements) (FewElements n) making → KeepsRule (λ vs. Fine (list vs)) (list_rule n making)
unfolding list_rule
list-kept n h =
    record-kept FineElements list (λ vs. vs) n (λ vs f. f) (λ vs f. f.fine) (λ c vs f d. let k = f.few in (d, omega arith, f.fine)) h

-- A Map record gives a fine map.
pub map-kept : (n : ℕ) {making : Making Entries} → Keeps (Ready FineEntries) (FewEntries n) making → KeepsRule (λ es. Fine (map es)) (map_rule n making)
unfolding map_rule
map-kept n h =
    record-kept FineEntries map entry_cells (cells_an_entry * n) cells-fine (λ es f. f.fine) (λ c es f d. let k = f.few in (d, omega arith, f.fine)) h

pub into-kept : {A : Type 0} {R : A → Type 0} (container : A → Value) {r : Rule A} → ((a : A) → R a → Fine (container a)) → KeepsRule R r
    → KeepsRule Fine (into container r)
unfolding into
into-kept container h k = keeps-bind k (λ a f. keeps-pure (container a) (h a f))

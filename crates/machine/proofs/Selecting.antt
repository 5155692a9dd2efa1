-- Select, index and optional select refine their rules. Rests on LookUp. Assumes nothing.
use Prim.Native.Nat.{ℕ}
use mathlib.Core.Path.{◌≡◌, refl, sym, ap, subst}
use mathlib.Core.List.{List}
use Rattle.std.specs.Prelude.{Option, None, Some}
use mathlib.Core.Bool.{Bool, true, false}
use native.Mathlib.Omega.{arith}
use Rattle.meaning.specs.Limits.{Counts}
use Rattle.meaning.specs.Errors.{NoOverload, NoSuchKey, FunctionError}
use Rattle.meaning.specs.Value as Meaning
use Rattle.meaning.specs.Value.{string, scalar, list, map, optional_none, optional_of, nesting, string_of}
use Rattle.meaning.specs.Run.{Eval, Rule, pure, charged, after, on_value, ◌>>=◌, fail, or_fail, operand}
use Rattle.meaning.specs.Optionals.{Unwrapped, NotOptional, PresentOptional, NoneOptional, unwrap_optional}
use Rattle.meaning.specs.Selection as Rules
use Rattle.meaning.specs.Selection.{index_rule, opt_select_rule, opt_select_in}
use Rattle.meaning.specs.Maps as Maps
use Rattle.meaning.specs.Meaning.{of_one}
use Rattle.meaning.specs.Comprehension as Comprehension
use Rattle.rooms.specs.declared.value.Value.{Value}
use Rattle.rooms.specs.declared.value.CellSpace.{CellSpace}
use Rattle.rooms.specs.declared.value.Parts.{Parts}
use Rattle.rooms.specs.declared.scope.Scope.{Scope}
use Rattle.rooms.specs.Value.{parts_of}
use Rattle.rooms.specs.Rooms.{Rooms, cell_at}
use Rattle.rooms.specs.Stands.{Alive, Stands, Holds}
use Rattle.machine.specs.declared.outcome.Outcome.{Outcome}
use Rattle.machine.specs.Outcomes.{Res, Does, with_value}
use Rattle.machine.specs.Views.{not_optional, optional_in}
use Rattle.machine.specs.Views as Views
use Rattle.machine.specs.Selection.{look_up, select_in_container, select_in_map, select_in_none, select_in_present, select_plain, select_parts, select_field, perhaps, index_in, index, opt_select}
use Rattle.machine.specs.Machine.{unless_none, index_left, on_left, both}
use Rattle.machine.specs.Refines.{used_of, Start, Refines}
use Rattle.machine.proofs.Match.{Says, value-now, raises, error-now}
use Rattle.machine.proofs.Operands.{of-operand, value_of}
use Rattle.rooms_comparison.proofs.SeenMeaning.{scalar-parts}
use Rattle.machine.proofs.Seen.{held_none, scalar-optional, StringView, string-view}
use Rattle.machine.proofs.Logic.{truth-now}
use Rattle.machine.proofs.LookUp.{held-cell, look_up-says, optionally-says, tells-says}
use Rattle.rooms.proofs.Frame.{holds_frame}

module _ (l : Counts) (src : List ℕ) where
  -- ---- an Optional taken apart

  abbrev pub UnwrapView : Alive → Rooms → Unwrapped → Value → Type 0
  UnwrapView L r (NotOptional w) m = (optional_in m ≡ not_optional) × Holds w L r m
  UnwrapView L r (PresentOptional w) m = (space : CellSpace) × (a : ℕ) × (optional_in m ≡ Views.present space a) × Holds w L r (cell_at r space a)
  UnwrapView L r NoneOptional m = m ≡ Value.OptionalNone

  pub unwrap-view : {L : Alive} {u : Counts} {r : Rooms} {s : Scope} {t : Comprehension.Scope} → Start l src L u r s t → (v : Meaning.Value) (m : Value) → Holds v L r m → UnwrapView L r (unwrap_optional v) m
  unfolding unwrap_optional Stands nesting
  unwrap-view {L} {u} {r} st (scalar x) m h = (scalar-optional L r x m h.stands, h)
  unwrap-view st (list vs) m h = (ap optional_in h.stands.2, h)
  unwrap-view st (map es) m h = (ap optional_in h.stands.2, h)
  unwrap-view st optional_none m h = h.stands
  unwrap-view st (optional_of v) m h = (h.stands.0, h.stands.1, ap optional_in h.stands.2, held-cell l src st v h.stands.0 h.stands.1 h.stands.4 (omega (arith, h.nests)))

  module _ {L : Alive} {u : Counts} {r : Rooms} {s : Scope} {t : Comprehension.Scope} (st : Start l src L u r s t) (p : ℕ) where
    -- ---- select

    module _ (test : Bool) (field : List ℕ) (f : Value) (k : Holds (scalar (string field)) L r f) where
      in-container : (b : Bool) (x : Outcome) (ρ : Rule Meaning.Value) → Says l src p L u r (x, r) ρ → Says l src p L u r (select_in_container b x r) (Rules.select_in_container b ρ)
      unfolding Rules.select_in_container
      in-container true x ρ h = tells-says l src st p x ρ h
      in-container false x ρ h = optionally-says l src st p x ρ h

      in_map : (b : Bool) (x : Outcome) (ρ : Rule Meaning.Value) → Says l src p L u r (x, r) ρ → Says l src p L u r (select_in_map b x r) (Rules.select_in_map b ρ)
      unfolding Rules.select_in_map
      in_map true x ρ h = tells-says l src st p x ρ h
      in_map false x ρ h = h

      in-none : (b : Bool) → Says l src p L u r (select_in_none b (used_of u), r) (Rules.select_in_none b)
      unfolding Rules.select_in_none
      in-none true = truth-now l src st p false
      in-none false = value-now l src st p Value.OptionalNone optional_none (held_none L r)

      abbrev InPresent : Value → Parts → Meaning.Value → Type 0
      InPresent c y v = Says l src p L u r (select_in_present l.steps p test f c y (used_of u) r) (Rules.select_in_present test field v)

      in-present : (v : Meaning.Value) (c : Value) → Holds v L r c → InPresent c (parts_of c) v
      unfolding Rules.select_in_present Stands
      in-present (scalar x) c h = subst (λ y. InPresent c y (scalar x)) (sym (scalar-parts L r x c h.stands)) (error-now l src st p NoSuchKey)
      in-present (list vs) c h = subst (λ y. InPresent c y (list vs)) (sym (ap parts_of h.stands.2)) (in-container test (look_up l.steps p r c f (used_of u)) _ (look_up-says l src st p (scalar (string field)) f k (list vs) c h))
      in-present (map es) c h = subst (λ y. InPresent c y (map es)) (sym (ap parts_of h.stands.2)) (in-container test (look_up l.steps p r c f (used_of u)) _ (look_up-says l src st p (scalar (string field)) f k (map es) c h))
      in-present optional_none c h = subst (λ y. InPresent c y optional_none) (sym (ap parts_of h.stands)) (error-now l src st p NoSuchKey)
      in-present (optional_of v) c h = subst (λ y. InPresent c y (optional_of v)) (sym (ap parts_of h.stands.2)) (error-now l src st p NoSuchKey)

      abbrev Selects : Value → Parts → Meaning.Value → Type 0
      Selects m y v = Says l src p L u r (select_parts l.steps p test f m y (used_of u) r) (Rules.select_field test field v)

      pub select-says : (v : Meaning.Value) (m : Value) → Holds v L r m → Says l src p L u r (select_field l.steps p test f m (used_of u) r) (Rules.select_field test field v)
      unfolding Rules.select_field Stands nesting
      select-says (scalar x) m h = subst (λ y. Selects m y (scalar x)) (sym (scalar-parts L r x m h.stands)) (subst (λ y. Says l src p L u r (select_plain p test y (used_of u), r) (fail NoOverload)) (sym (scalar-optional L r x m h.stands)) (error-now l src st p NoOverload))
      select-says (list vs) m h = subst (λ y. Selects m y (list vs)) (sym (ap parts_of h.stands.2)) (error-now l src st p NoOverload)
      select-says (map es) m h = subst (λ y. Selects m y (map es)) (sym (ap parts_of h.stands.2)) (in_map test (look_up l.steps p r m f (used_of u)) _ (look_up-says l src st p (scalar (string field)) f k (map es) m h))
      select-says optional_none m h = subst (λ y. Selects y (parts_of y) optional_none) (sym h.stands) (in-none test)
      select-says (optional_of v) m h = subst (λ y. Selects m y (optional_of v)) (sym (ap parts_of h.stands.2)) (in-present v (cell_at r h.stands.0 h.stands.1) (held-cell l src st v h.stands.0 h.stands.1 h.stands.4 (omega (arith, h.nests))))

    -- ---- index, both operands known

    perhaps-says : (b : Bool) (x : Outcome) (ρ : Rule Meaning.Value) → Says l src p L u r (x, r) ρ → Says l src p L u r (perhaps b x r) (Rules.perhaps b ρ)
    unfolding Rules.perhaps
    perhaps-says true x ρ h = optionally-says l src st p x ρ h
    perhaps-says false x ρ h = h

    -- the look-up of a known index, in an Optional or in another value
    abbrev pub indexed : Bool → Unwrapped → Meaning.Value → Rule Meaning.Value
    indexed optional (NotOptional v) i = Rules.perhaps optional (Maps.look_up v i)
    indexed optional (PresentOptional v) i = Rules.optionally (Maps.look_up v i)
    indexed optional NoneOptional i = pure optional_none

    pub index-says : (optional : Bool) (o : Unwrapped) (m : Value) → UnwrapView L r o m → (w : Meaning.Value) (n : Value) → Holds w L r n → Says l src p L u r (index l.steps p optional m n (used_of u) r) (indexed optional o w)
    index-says optional (NotOptional v) m h w n k = subst (λ y. Says l src p L u r (index_in l.steps p optional m n (used_of u) r y) (Rules.perhaps optional (Maps.look_up v w))) (sym h.0) (perhaps-says optional (look_up l.steps p r m n (used_of u)) _ (look_up-says l src st p w n k v m h.1))
    index-says optional (PresentOptional v) m h w n k = subst (λ y. Says l src p L u r (index_in l.steps p optional m n (used_of u) r y) (Rules.optionally (Maps.look_up v w))) (sym h.2) (optionally-says l src st p (look_up l.steps p r (cell_at r h.0 h.1) n (used_of u)) _ (look_up-says l src st p w n k v (cell_at r h.0 h.1) h.3))
    index-says optional NoneOptional m h w n k = subst (λ y. Says l src p L u r (index l.steps p optional y n (used_of u) r) (pure optional_none)) (sym h) (value-now l src st p Value.OptionalNone optional_none (held_none L r))

    -- ---- optional select

    select_in : (field : List ℕ) (o : Unwrapped) (m : Value) → UnwrapView L r o m → (n : Value) → Holds (scalar (string field)) L r n → Says l src p L u r (index l.steps p true m n (used_of u) r) (opt_select_in field o)
    unfolding opt_select_in Rules.perhaps
    select_in field (NotOptional v) m h n k = index-says true (NotOptional v) m h (scalar (string field)) n k
    select_in field (PresentOptional v) m h n k = index-says true (PresentOptional v) m h (scalar (string field)) n k
    select_in field NoneOptional m h n k = index-says true NoneOptional m h (scalar (string field)) n k

    opt-end : (target : Unwrapped) (m : Value) → UnwrapView L r target m → (w : Meaning.Value) (n : Value) → Holds w L r n → (o : Option (List ℕ)) → StringView L r o n → Says l src p L u r (opt_select l.steps p m n (used_of u) r) (◌>>=◌ (or_fail FunctionError o) (λ field. opt_select_in field target))
    unfolding ◌>>=◌ after on_value charged or_fail fail pure nesting
    opt-end target m h w n k None i = rw i (error-now l src st p FunctionError)
    opt-end target m h w n k (Some field) i = rw i.0 (select_in field target m h n (record { stands = i.1; fits = k.fits; nests = omega arith }))

    pub opt_select-says : (v : Meaning.Value) (m : Value) → Holds v L r m → (w : Meaning.Value) (n : Value) → Holds w L r n → Says l src p L u r (opt_select l.steps p m n (used_of u) r) (opt_select_rule (unwrap_optional v) w)
    unfolding opt_select_rule
    opt_select-says v m h w n k = opt-end (unwrap_optional v) m (unwrap-view st v m h) w n k (string_of w) (string-view L r w n k.stands)

  -- ---- index, from its operands

  abbrev pub index_does : Bool → ℕ → Does → Scope → Res → Res
  index_does optional p right s x = on_left (index_left x.0) x.0 x.1 (λ w q. with_value (right s w q).0 (right s w q).1 (λ v z d. both x.0 d (λ m. index l.steps p optional m v z d)))

  module _ (optional : Bool) (p : ℕ) (right : Does) (g : Comprehension.Scope → Eval Meaning.Value) (hg : Refines l src right g) where
    after-value : {L : Alive} {u : Counts} {r : Rooms} {s : Scope} {t : Comprehension.Scope} → Start l src L u r s t → (v : Meaning.Value) (m : Value) → Holds v L r m → (o : Unwrapped) → unwrap_optional v ≡ o → UnwrapView L r o m → Says l src p L u r (index_does optional p right s (Outcome.Value m (used_of u), r)) (index_rule optional (g t) o)
    unfolding index_rule
    after-value {L} {u} {r} {s} {t} st v m h (NotOptional w) e i =
        subst (λ y. Says l src p L u r (on_left (unless_none y (used_of u)) (Outcome.Value m (used_of u)) r (λ c q. with_value (right s c q).0 (right s c q).1 (λ n z d. index l.steps p optional m n z d))) (◌>>=◌ (operand (g t)) (λ j. Rules.perhaps optional (Maps.look_up w j)))) (sym i.0)
        (value_of l src st p right g hg (λ n z d. index l.steps p optional m n z d) (λ j. Rules.perhaps optional (Maps.look_up w j))
        (λ M c q b a n x k. index-says b p optional (NotOptional w) m (subst (λ y. UnwrapView M q y m) e (unwrap-view b v m (holds_frame L M r q a v m h))) x n k))
    after-value {L} {u} {r} {s} {t} st v m h (PresentOptional w) e i =
        subst (λ y. Says l src p L u r (on_left (unless_none y (used_of u)) (Outcome.Value m (used_of u)) r (λ c q. with_value (right s c q).0 (right s c q).1 (λ n z d. index l.steps p optional m n z d))) (◌>>=◌ (operand (g t)) (λ j. Rules.optionally (Maps.look_up w j)))) (sym i.2)
        (value_of l src st p right g hg (λ n z d. index l.steps p optional m n z d) (λ j. Rules.optionally (Maps.look_up w j))
        (λ M c q b a n x k. index-says b p optional (PresentOptional w) m (subst (λ y. UnwrapView M q y m) e (unwrap-view b v m (holds_frame L M r q a v m h))) x n k))
    after-value {L} {u} {r} {s} {t} st v m h NoneOptional e i = subst (λ y. Says l src p L u r (index_does optional p right s (Outcome.Value y (used_of u), r)) (pure optional_none)) (sym i) (value-now l src st p Value.OptionalNone optional_none (held_none L r))

    pub index_of : {L : Alive} {u : Counts} {r : Rooms} {s : Scope} {t : Comprehension.Scope} → Start l src L u r s t → (left : Does) (f : Comprehension.Scope → Eval Meaning.Value) → Refines l src left f → Says l src p L u r (index_does optional p right s (left s (used_of u) r)) (of_one (f t) (λ v. index_rule optional (g t) (unwrap_optional v)))
    unfolding of_one ◌>>=◌ on_value
    index_of {L} {u} {r} {s} {t} st left f hf =
        of-operand l src st p left f hf (index_does optional p right s) (on_value (λ v. index_rule optional (g t) (unwrap_optional v)))
        (λ M c q b j m v k. after-value b v m k (unwrap_optional v) refl (unwrap-view b v m k))
        (λ M c q b j e. raises l src b p e)
        (λ x z q. refl)

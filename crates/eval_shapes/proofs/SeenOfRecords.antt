-- What a comprehension sees of the record at a place: a name, a literal, a fold, and the append path. Assumes nothing.
use Prim.Native.Nat.{ℕ, ◌+◌, ◌≤◌, ◌<◌}
use mathlib.Core.Path.{◌≡◌, refl, sym, ◌∙◌, ap}
use mathlib.Core.Bool.{Bool, true, false, cond}
use mathlib.Core.List.{List}
use Rattle.std.specs.Prelude.{Option, None, Some}
use native.Mathlib.Omega.{arith}
use lib.Dec.{eqb, ltb}
use lib.ListN.{length, get_or}
use borrow.Author.Tests.{ltb-true, ltb-false, eq-eqb, ne_eqb}
use Rattle.meaning.specs.Expr.{Expr, LogicalFold, binary, conditional}
use Rattle.meaning.specs.Kinds.{name_kind, binary_kind, conditional_kind}
use Rattle.meaning.specs.Look.{of_name, named}
use Rattle.meaning.specs.Meaning.{look}
use Rattle.table_layout.specs.Layout.{head_bytes, word_at, after}
use Rattle.table_check.specs.Records.{expr_of, Sound, binary_of}
use Rattle.table_check.proofs.Opened.{opened}
use Rattle.machine.specs.Outcomes.{Does}
use Rattle.machine.specs.Comprehension.{empty_parts}
use Rattle.rooms.specs.declared.value.Value.{Value}
use Rattle.rooms.specs.Value.{parts_of}
use Rattle.machine.specs.Machine.{machine, appending, sum_to, append_step, append_sum, items_list}
use Rattle.eval_shapes.specs.declared.comprehensions.Appending.{Appending}
use Rattle.eval_shapes.specs.declared.comprehensions.Places.{Places}
use Rattle.eval_shapes.specs.Comprehensions.{fold_in, path_seen, PathIn, items_seen, ItemsIn, path_of}
use Rattle.eval_shapes.proofs.KindLaws.{kind_in, KindOf, kind-here, here-is}
use Rattle.eval_shapes.proofs.Looks.{no_name, is-literal, folds-binary, folds-other, no-sum, plain-path, list-items, no_items, no_plus, plus}

-- ---- names and literals

literal-by : (e : Expr) (n : ℕ) (b : Bool) → ltb n 7 ≡ b → KindOf e n → b ≡ eqb (kind_in e) 0
literal-by e n true h k = sym (eq-eqb (kind_in e) 0 (k.low (ltb-true n 7 h)))
literal-by e n false h k =
    let l = ltb-false n 7 h in
    sym (ne_eqb (kind_in e) 0 (λ z. omega (arith, l, k.high l, z)))

module _ (t x : List ℕ) (p : ℕ) (s : Sound t x p) where
  k : KindOf (expr_of t x p) (get_or t p 0)
  k = kind-here t x p s

  pub literal-seen : ltb (get_or t p 0) 7 ≡ (look (expr_of t x p)).is_literal
  literal-seen = literal-by (expr_of t x p) (get_or t p 0) (ltb (get_or t p 0) 7) refl k ∙ sym (is-literal (expr_of t x p))

  pub name-seen : get_or t p 0 ≡ 7 → (a : ℕ) → eqb (get_or t (p + 3) 0) a ≡ named a (look (expr_of t x p)).is_name
  unfolding named look
  name-seen b a = rw (here-is t x p s name_kind b)

  pub name-unseen : (get_or t p 0 ≡ 7 → ⊥) → (a : ℕ) → false ≡ named a (look (expr_of t x p)).is_name
  unfolding named
  name-unseen h a = rw (no_name (expr_of t x p) (k.other 7 (omega arith) h))

  -- ---- a record of two operands

  pub record BinaryAt : Type 0 where
    pub body : p + 4 ≤ length t
    pub first : p + head_bytes (get_or t p 0) ≡ p + 4
    pub one : Sound t x (p + 4)
    pub two : Sound t x (after t (p + 4))
    pub extents : 4 + (word_at t (p + 4 + 1) + word_at t (after t (p + 4) + 1)) ≡ word_at t (p + 1)
    pub is : expr_of t x p ≡ binary p (binary_of (get_or t (p + 3) 0)) (expr_of t x (p + 4)) (expr_of t x (after t (p + 4)))

  pub binary-at : get_or t p 0 ≡ 9 → BinaryAt
  binary-at b =
      let o = opened t x p binary_kind b s in
      let r = o.row in
      record { body = o.body; first = o.first; one = r.0; two = r.1.0; extents = omega (arith, r.1.1); is = o.is }

  pub record ConditionalAt : Type 0 where
    pub body : p + 3 ≤ length t
    pub first : p + head_bytes (get_or t p 0) ≡ p + 3
    pub condition : Sound t x (p + 3)
    pub then : Sound t x (after t (p + 3))
    pub else : Sound t x (after t (after t (p + 3)))
    pub extents : 3 + (word_at t (p + 3 + 1) + (word_at t (after t (p + 3) + 1) + word_at t (after t (after t (p + 3)) + 1))) ≡ word_at t (p + 1)
    pub is : expr_of t x p ≡ conditional p (expr_of t x (p + 3)) (expr_of t x (after t (p + 3))) (expr_of t x (after t (after t (p + 3))))

  pub conditional-at : get_or t p 0 ≡ 10 → ConditionalAt
  conditional-at b =
      let o = opened t x p conditional_kind b s in
      let r = o.row in
      record {
        body = o.body;
        first = o.first;
        condition = r.0;
        then = r.1.0;
        else = r.1.1.0;
        extents = omega (arith, r.1.1.1);
        is = o.is;
      }

  -- ---- folds

  pub fold-unseen : (get_or t p 0 ≡ 9 → ⊥) → (a : ℕ) → None ≡ of_name a (look (expr_of t x p)).folds
  fold-unseen h a = sym (folds-other a (expr_of t x p) (k.other 9 (omega arith) h))

  -- of the accumulator, by its operator
  pub fold-seen : get_or t p 0 ≡ 9 → (a : ℕ) → of_name a (look (expr_of t x p)).folds ≡
      cond (named a (look (expr_of t x (p + 4))).is_name) (fold_in (binary_of (get_or t (p + 3) 0))) None
  fold-seen b a = rw (binary-at b).is (folds-binary a p (binary_of (get_or t (p + 3) 0)) (expr_of t x (p + 4)) (expr_of t x (after t (p + 4))))

  module _ (b : get_or t p 0 ≡ 9) (a : ℕ) (f : ℕ) (e : f ≡ p + head_bytes (get_or t p 0)) where
    first-is : f ≡ p + 4
    first-is = e ∙ (binary-at b).first

    pub fold-taken : true ≡ named a (look (expr_of t x f)).is_name → {o : Option LogicalFold} → o ≡ fold_in (binary_of (get_or t (p + 3) 0)) →
        o ≡ of_name a (look (expr_of t x p)).folds
    fold-taken h g = g ∙ sym (fold-seen b a ∙ (rw (sym (rw first-is at h))))

    pub fold-left : false ≡ named a (look (expr_of t x f)).is_name → None ≡ of_name a (look (expr_of t x p)).folds
    fold-left h = sym (fold-seen b a ∙ (rw (sym (rw first-is at h))))

  -- ---- `a + [..]`

  module _ (a limit : ℕ) where
    pub no-sum-here : (get_or t p 0 ≡ 9 → ⊥) → None ≡ append_sum t limit a (expr_of t x p)
    no-sum-here h = sym (no-sum t limit a (expr_of t x p) (k.other 9 (omega arith) h))

    module _ (b : get_or t p 0 ≡ 9) where
      sum_is : append_sum t limit a (expr_of t x p) ≡
          sum_to a (binary_of (get_or t (p + 3) 0)) (look (expr_of t x (p + 4))).is_name (items_list t limit (expr_of t x (after t (p + 4))))
      unfolding append_sum
      sum_is = rw (binary-at b).is

      pub other-sum : (get_or t (p + 3) 0 ≡ 8 → ⊥) → None ≡ append_sum t limit a (expr_of t x p)
      other-sum h =
          sym (sum_is ∙ no_plus (get_or t (p + 3) 0) h a (look (expr_of t x (p + 4))).is_name (items_list t limit (expr_of t x (after t (p + 4)))))

      module _ (n : get_or t (p + 3) 0 ≡ 8) where
        plus-is : append_sum t limit a (expr_of t x p) ≡
            cond (named a (look (expr_of t x (p + 4))).is_name) (items_list t limit (expr_of t x (after t (p + 4)))) None
        plus-is = sum_is ∙ (rw n (plus a (look (expr_of t x (p + 4))).is_name (items_list t limit (expr_of t x (after t (p + 4))))))

        pub sum-to-another : false ≡ named a (look (expr_of t x (p + 4))).is_name → None ≡ append_sum t limit a (expr_of t x p)
        sum-to-another h = sym (plus-is ∙ (rw (sym h)))

        pub sum-of-list : true ≡ named a (look (expr_of t x (p + 4))).is_name → get_or t (after t (p + 4)) 0 ≡ 12 →
            Some (machine t limit (expr_of t x (after t (p + 4)))) ≡ append_sum t limit a (expr_of t x p)
        sum-of-list h l =
            let q = kind-here t x (after t (p + 4)) (binary-at b).two in
            sym (plus-is ∙ (rw (sym h) (list-items t limit (expr_of t x (after t (p + 4))) (q.high (omega (arith, l)) ∙ l))))

        pub sum-of-another : true ≡ named a (look (expr_of t x (p + 4))).is_name → (get_or t (after t (p + 4)) 0 ≡ 12 → ⊥) →
            None ≡ append_sum t limit a (expr_of t x p)
        sum-of-another h l =
            let q = kind-here t x (after t (p + 4)) (binary-at b).two in
            sym (plus-is ∙ (rw (sym h) (no_items t limit (expr_of t x (after t (p + 4))) (q.other 12 (omega arith) l))))

    -- ---- the append path

    pub plain_here : (get_or t p 0 ≡ 10 → ⊥) → {o : Option Does} → o ≡ append_sum t limit a (expr_of t x p) → appending None o ≡ append_step t limit a (expr_of t x p)
    plain_here h e = rw e (sym (plain-path t limit a (expr_of t x p) (k.other 10 (omega arith) h)))

    module _ (b : get_or t p 0 ≡ 10) where
      guarded-is : append_step t limit a (expr_of t x p) ≡
          cond (named a (look (expr_of t x (after t (after t (p + 3))))).is_name)
          (appending (Some (machine t limit (expr_of t x (p + 3)))) (append_sum t limit a (expr_of t x (after t (p + 3))))) None
      unfolding append_step
      guarded-is = rw (conditional-at b).is

      pub guard-of-another : false ≡ named a (look (expr_of t x (after t (after t (p + 3))))).is_name → None ≡ append_step t limit a (expr_of t x p)
      guard-of-another h = sym (guarded-is ∙ (rw (sym h)))

      pub guarded-here : true ≡ named a (look (expr_of t x (after t (after t (p + 3))))).is_name → {o : Option Does} →
          o ≡ append_sum t limit a (expr_of t x (after t (p + 3))) → appending (Some (machine t limit (expr_of t x (p + 3)))) o ≡ append_step t limit a (expr_of t x p)
      guarded-here h e = rw e (sym (guarded-is ∙ (rw (sym h))))

  -- ---- as the functions find it

  module _ (b : get_or t p 0 ≡ 9) (a : ℕ) (n : get_or t (p + 3) 0 ≡ 8) (f : ℕ) (e : f ≡ p + head_bytes (get_or t p 0)) (q : ℕ) (g : q ≡ after t f)
      (h : true ≡ named a (look (expr_of t x f)).is_name) where
    list-is : q ≡ after t (p + 4)
    list-is = g ∙ ap (λ (m : ℕ). after t m) (e ∙ (binary-at b).first)

    to-name : true ≡ named a (look (expr_of t x (p + 4))).is_name
    to-name = rw (e ∙ (binary-at b).first) at h

    pub items-found : get_or t q 0 ≡ 12 → ((limit : ℕ) → Some (machine t limit (expr_of t x q)) ≡ append_sum t limit a (expr_of t x p)) ×
        (Sound t x q × (word_at t (q + 1) < word_at t (p + 1)))
    items-found l =
        let o = binary-at b in
        let m : get_or t (after t (p + 4)) 0 ≡ 12 = rw list-is at l in
        rw list-is ((λ limit. sum-of-list a limit b n to-name m, (o.two, omega (arith, o.extents))))

    pub items-missing : (get_or t q 0 ≡ 12 → ⊥) → (limit : ℕ) → None ≡ append_sum t limit a (expr_of t x p)
    items-missing l limit = sum-of-another a limit b n to-name (λ m. l (rw list-is m))

  pub then-sound : get_or t p 0 ≡ 10 → (a f : ℕ) → f ≡ p + head_bytes (get_or t p 0) → (q : ℕ) → q ≡ after t f → Sound t x q
  then-sound b a f e q g = let o = conditional-at b in rw (g ∙ ap (λ (m : ℕ). after t m) (e ∙ o.first)) o.then

  module _ (b : get_or t p 0 ≡ 10) (a : ℕ) (f : ℕ) (e : f ≡ p + head_bytes (get_or t p 0)) (q : ℕ) (g : q ≡ after t f) (r : ℕ) (i : r ≡ after t q) where
    guard-is : f ≡ p + 3
    guard-is = e ∙ (conditional-at b).first

    then_is : q ≡ after t (p + 3)
    then_is = g ∙ ap (λ (m : ℕ). after t m) guard-is

    else_is : r ≡ after t (after t (p + 3))
    else_is = i ∙ ap (λ (m : ℕ). after t m) then_is

    pub guard-sound : Sound t x f × (Sound t x q × Sound t x r)
    guard-sound = let o = conditional-at b in rw (guard-is, then_is, else_is) ((o.condition, (o.then, o.else)))

    pub guard-missing : false ≡ named a (look (expr_of t x r)).is_name → (limit : ℕ) → None ≡ append_step t limit a (expr_of t x p)
    guard-missing h limit = guard-of-another a limit b (rw else_is at h)

    module _ (h : true ≡ named a (look (expr_of t x r)).is_name) where
      guarded-by : (limit : ℕ) {o : Option Does} → o ≡ append_sum t limit a (expr_of t x q) →
          appending (Some (machine t limit (expr_of t x f))) o ≡ append_step t limit a (expr_of t x p)
      guarded-by limit {o} j =
          let k : true ≡ named a (look (expr_of t x (after t (after t (p + 3))))).is_name = rw else_is at h in
          let l : o ≡ append_sum t limit a (expr_of t x (after t (p + 3))) = rw then_is at j in
          rw guard-is (guarded-here a limit b k l)

      pub guard-unlisted : ((limit : ℕ) → None ≡ append_sum t limit a (expr_of t x q)) → (limit : ℕ) → None ≡ append_step t limit a (expr_of t x p)
      guard-unlisted k limit = guarded-by limit (k limit)

      pub guard-found : (m : ℕ) → ((limit : ℕ) → items_seen t x limit (Some m) ≡ append_sum t limit a (expr_of t x q)) × ItemsIn t x q (Some m) →
          ((limit : ℕ) → path_seen t x limit (Some (record { guard = Some f; list = m })) ≡ append_step t limit a (expr_of t x p)) ×
          PathIn t x p (Some (record { guard = Some f; list = m }))
      guard-found m k =
          let o = conditional-at b in
          let n : word_at t (m + 1) < word_at t (after t (p + 3) + 1) = rw then_is at k.1.1 in
          (λ limit. guarded-by limit (k.0 limit), (guard-sound.0, k.1.0, rw guard-is (omega (arith, n, o.extents))))

  module _ (b : get_or t p 0 ≡ 10 → ⊥) (a : ℕ) where
    pub step-unlisted : ((limit : ℕ) → None ≡ append_sum t limit a (expr_of t x p)) → (limit : ℕ) → None ≡ append_step t limit a (expr_of t x p)
    step-unlisted e limit = plain_here a limit b (e limit)

    pub step-found : (m : ℕ) → ((limit : ℕ) → items_seen t x limit (Some m) ≡ append_sum t limit a (expr_of t x p)) × ItemsIn t x p (Some m) →
        ((limit : ℕ) → path_seen t x limit (Some (record { guard = None; list = m })) ≡ append_step t limit a (expr_of t x p)) ×
        PathIn t x p (Some (record { guard = None; list = m }))
    step-found m e = (λ limit. plain_here a limit b (e.0 limit), e.1)

-- ---- from an empty list, with a literal for a condition and the accumulator for a result

module _ (t x : List ℕ) (limit : ℕ) (c : Places) (start : Value) where
  pub path-not-empty : empty_parts (parts_of start) ≡ false → None ≡ path_of t x limit c start
  path-not-empty e = rw e

  module _ (e : empty_parts (parts_of start) ≡ true) where
    pub path-no-literal : (look (expr_of t x c.condition)).is_literal ≡ false → None ≡ path_of t x limit c start
    path-no-literal f = rw (e, f)

    module _ (f : (look (expr_of t x c.condition)).is_literal ≡ true) where
      pub path-other-result : named c.accumulator (look (expr_of t x c.result)).is_name ≡ false → None ≡ path_of t x limit c start
      path-other-result g = rw (e, f, g)

      pub path-open : named c.accumulator (look (expr_of t x c.result)).is_name ≡ true →
          append_step t limit c.accumulator (expr_of t x c.step) ≡ path_of t x limit c start
      path-open g = rw (e, f, g)

-- Nothing turns exhaustion into another answer: where a part is begun, its charges are the record's own, and a charge of it that does
-- not fit ends the whole run. Rests on Exhausted and, for each kind of record, on BegunOperands, BegunParts and BegunItems.
-- Assumes nothing.
use mathlib.Core.Path.{◌≡◌, sym, ◌∙◌, ap, subst}
use mathlib.Core.List.{[], ◌∷◌, ◌++◌}
use mathlib.Core.Bool.{true, false}
use Rattle.meaning.specs.Limits.{Counts, nothing_yet}
use Rattle.meaning.specs.Errors.{ErrorAt, Exhausted}
use Rattle.meaning.specs.Value.{Value, list, nil}
use Rattle.meaning.specs.Expr.{Expr, literal, name}
use Rattle.meaning.specs.Run.{step, Trace, Result, operand, charged, here, begin, choose}
use Rattle.meaning.specs.Comprehension.{Scope, Comprehension}
use Rattle.meaning.specs.Look.{of_name, append_step}
use Rattle.meaning.specs.Meaning.{run, look}
use Rattle.meaning.specs.Limited.{through, stopped, onward, spend, exhausted, ended, outcome, limited}
use Rattle.meaning_laws.specs.Begins.{Begins, of_unary, left_of, right_of, condition_of, if_true, if_false, selected_from, element_of, entry_of, init_of, range_of, loop_of, append_of, argument_of, default_of, target_of, Reaches, itself, inside}
use Rattle.meaning_laws.specs.Charges.{Within, Stops}
use Rattle.meaning_laws.proofs.Spending.{within-prefix, spend-append}
use Rattle.meaning_laws.proofs.Exhausted.{stopped-exactly, ended-exactly}
use Rattle.meaning_laws.proofs.Opening.{Opens, opens-self, opens-behind, opens-grouped, opens-within}
use Rattle.meaning_laws.proofs.BegunOperands.{one-begun, unary-begun, binary-left, binary-right, condition-begun, branch-begun, default-begun, target-begun}
use Rattle.meaning_laws.proofs.BegunParts.{list-begun, map-begun}
use Rattle.meaning_laws.proofs.BegunItems.{parts_of, loop-begun, init-begun, range-begun, items-begun, takes-loop, takes-append}

-- The charges of a record begin with those before an operand, and then the operand's.
pub begun : {e f : Expr} {s t : Scope} {before : Trace} → Begins e s before f t → Opens (before ++ (run f t).0) (run e s).0
unfolding run begin charged here operand choose
begun {s} (of_unary {o = o} {e = e}) = opens-behind (step ∷ []) (unary-begun o (run e s))
begun {s} (left_of {o = o} {e = e} {f = f}) = opens-behind (step ∷ []) (binary-left o (run e s) (run f s))
begun {s} (right_of {o = o} {e = e} {f = f} g) = opens-behind (step ∷ []) (binary-right o (run e s) (run f s) g)
begun {s} (condition_of {c = c} {e = e} {f = f}) = opens-behind (step ∷ []) (condition-begun (run c s) (run e s) (run f s))
begun {s} (if_true {c = c} {e = e} {f = f} g) = opens-behind (step ∷ []) (branch-begun (run c s) (run e s) (run f s) true g)
begun {s} (if_false {c = c} {e = e} {f = f} g) = opens-behind (step ∷ []) (branch-begun (run c s) (run e s) (run f s) false g)
begun {s} (selected_from {e = e}) = opens-behind (step ∷ []) (one-begun (run e s) _)
begun {s} (element_of b) = opens-behind (step ∷ []) (list-begun b)
begun {s} (entry_of b) = opens-behind (step ∷ []) (map-begun b)
begun {s} (init_of {a = a} {i = i} {range = g} {init = h} {condition = c} {next = n} {result = r}) =
    opens-behind (step ∷ []) (init-begun (parts_of a i (of_name a (look n).folds) (append_step a (look c) (look n) (look r)) g h c n r) s)
begun {s} (range_of {a = a} {i = i} {range = g} {init = h} {condition = c} {next = n} {result = r} v) =
    opens-behind (step ∷ []) (range-begun (parts_of a i (of_name a (look n).folds) (append_step a (look c) (look n) (look r)) g h c n r) s v)
begun {f} {s} {t} (loop_of {a = a} {i = i} {range = g} {init = h} {condition = c} {next = n} {result = r} {v = v} {w = w} {xs = xs}
    {before = b} p q o k l) =
    let fold = of_name a (look n).folds in
    let path = append_step a (look c) (look n) (look r) in
    let parts : Comprehension Value = parts_of a i fold path g h c n r in
    let in_loop = loop-begun a i fold path g h c n r l in
    let inner = subst (λ m. Opens (b ++ (run f t).0) m.0) (sym (takes-loop parts k xs s)) in_loop in
    opens-behind (step ∷ []) (items-begun parts s v w xs b (run f t).0 p q o inner)
begun {f} {s} {t} (append_of {a = a} {i = i} {q = q} {n = n} {x = x} {range = g} {init = h} {next = u} {w = w} {xs = xs} {before = b} p z o k l) =
    let fold = of_name a (look u).folds in
    let path = append_step a (look (literal q x)) (look u) (look (name n a)) in
    let parts : Comprehension Value = parts_of a i fold path g h (literal q x) u (name n a) in
    opens-behind (step ∷ []) (items-begun parts s (list nil) w xs b (run f t).0 p z o (takes-append n g h fold path k l))
begun {s} (argument_of {e = e}) = opens-behind (step ∷ []) (one-begun (run e s) _)
begun {s} (default_of {target = e} {argument = f}) = opens-behind (step ∷ []) (default-begun (run e s) (run f s))
begun {s} (target_of {target = e} {argument = f} g) = opens-behind (step ∷ []) (target-begun (run e s) (run f s) g)

-- So do those of parts at any depth.
pub reached : {e f : Expr} {s t : Scope} {before : Trace} → Reaches e s before f t → Opens (before ++ (run f t).0) (run e s).0
reached {e} {s} itself = opens-self (run e s).0
reached {e} {f} {s} {t} (inside {before = b} {more = m} i r) = opens-grouped b m (run f t).0 (opens-within (opens-behind b (reached r)) (begun i))

-- ---- exhaustion stays exhaustion

opened-stops : (limits : Counts) (u t : Trace) (c d : Counts) (x : Exhausted) → Opens u t → spend limits u c ≡ stopped x d →
    spend limits t c ≡ stopped x d
unfolding onward
opened-stops limits u t c d x o e =
    ap (λ w. spend limits w c) o.whole ∙ spend-append limits u o.rest c ∙ ap (onward (λ k. spend limits o.rest k)) e

-- If the charges before an operand, and then its own, stop somewhere, then the record is exhausted there, whatever its rule makes of errors.
pub operand-exhausts : {e f : Expr} {s t : Scope} {before : Trace} → Begins e s before f t → (limits c : Counts) (x : Exhausted) →
    Stops limits (before ++ (run f t).0) x c → limited limits (run e s) ≡ exhausted x c
unfolding limited outcome
operand-exhausts {e} {f} {s} {t} {before} b limits c x h =
    let stop = (stopped-exactly limits (before ++ (run f t).0) x c).1 h in
    ap (outcome (run e s).1) (opened-stops limits (before ++ (run f t).0) (run e s).0 nothing_yet c x (begun b) stop)

-- So it is for a part at any depth.
pub part-exhausts : {e f : Expr} {s t : Scope} {before : Trace} → Reaches e s before f t → (limits c : Counts) (x : Exhausted) →
    Stops limits (before ++ (run f t).0) x c → limited limits (run e s) ≡ exhausted x c
unfolding limited outcome
part-exhausts {e} {f} {s} {t} {before} r limits c x h =
    let stop = (stopped-exactly limits (before ++ (run f t).0) x c).1 h in
    ap (outcome (run e s).1) (opened-stops limits (before ++ (run f t).0) (run e s).0 nothing_yet c x (reached r) stop)

-- The same from the counts d that a part starts with: if it is exhausted from there, then so is the whole run, of the same limit and with
-- the same counts.
pub part-exhausts-from : {e f : Expr} {s t : Scope} {before : Trace} → Reaches e s before f t → (limits c d : Counts) (x : Exhausted) →
    spend limits before nothing_yet ≡ through d → spend limits (run f t).0 d ≡ stopped x c → limited limits (run e s) ≡ exhausted x c
unfolding limited outcome onward
part-exhausts-from {e} {f} {s} {t} {before} r limits c d x p q =
    let stop = spend-append limits before (run f t).0 nothing_yet ∙ ap (onward (λ k. spend limits (run f t).0 k)) p ∙ q in
    ap (outcome (run e s).1) (opened-stops limits (before ++ (run f t).0) (run e s).0 nothing_yet c x (reached r) stop)

-- A run that gives a value or an error has made all charges of every part that it began.
pub parts_within : {e f : Expr} {s t : Scope} {before : Trace} → Reaches e s before f t → (limits c : Counts) (y : Result ErrorAt Value) →
    limited limits (run e s) ≡ ended y c → Within limits (before ++ (run f t).0)
parts_within {e} {f} {s} {t} {before} r limits c y h =
    let o = reached r in
    within-prefix limits (before ++ (run f t).0) o.rest (subst (Within limits) o.whole ((ended-exactly limits (run e s) y c).0 h).1)

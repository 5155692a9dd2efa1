-- What the reader of node tables tells of the bytes that it read: texts, what follows one another, elements and entries.
-- It rests on the writing rules and on what a reading that succeeds went through. Assumes nothing.
use Prim.Native.Nat.{ℕ, zero, suc, ◌+◌, ◌≤◌, max}
use native.Mathlib.Omega.{arith}
use mathlib.Core.Path.{◌≡◌, refl, sym, ap, subst, ◌∙◌}
use mathlib.Core.List.{List}
use Rattle.std.specs.Prelude.{Option, None, Some}
use mathlib.Core.Bool.{Bool, true, false, cond}
use lib.ListN.{length, take, drop, length-drop}
use lib.Seq.{slice, slice_empty, length-slice, length-take-le}
use lib.Dec.{leb}
use borrow.Author.Tests.{leb-true}
use Rattle.text.specs.Utf8.{well_formed}
use Rattle.meaning.specs.Expr.{Expr, Elements, no_elements, Pairs, no_pairs, count_elements, count_pairs}
use Rattle.meaning.specs.Heads.{got}
use Rattle.meaning.specs.Table.{Part, bare, marked, add_element, add_pair, Reader, elements_from, pairs_from, span, utf8}
use Rattle.meaning_laws.specs.Written.{Form, nothing, ◌then◌, Excerpt, Written, WrittenElements, WrittenPairs, depth, depth_elements, depth_pairs}
use Rattle.meaning_laws.proofs.TableBytes.{nonsense, joined}
use Rattle.meaning_laws.proofs.TableHeads.{went}
use Rattle.meaning_laws.proofs.TableForms.{depth_part, WrittenPart}

-- ---- texts

-- A span that is found is a part of the text, and has the length that was asked for.
pub span-here : (text : List ℕ) (offset n : ℕ) (s : List ℕ) → span text offset n ≡ Some s → Excerpt text s offset × (n ≡ length s)
unfolding span
span-here text offset n s e = go (leb (offset + n) (length text)) refl e
  where
    go : (t : Bool) → leb (offset + n) (length text) ≡ t → cond t (Some (take n (drop offset text))) None ≡ Some s → Excerpt text s offset × (n ≡ length s)
    go true h e =
        let within = leb-true (offset + n) (length text) h in
        let same : take n (drop offset text) ≡ s = cc in
        let rest = length-drop offset text in
        let size : n ≡ length s = sym (length-take-le n (drop offset text) (omega arith)) ∙ ap length same in
        (record { within = rw (← size) within; same = rw (← size) same }, size)
    go false h e = nonsense (cc)

-- What passes as UTF-8 is well formed, and is what was found.
pub utf8-here : (o : Option (List ℕ)) (s : List ℕ) → utf8 o ≡ Some s → (o ≡ Some s) × (well_formed s ≡ true)
unfolding utf8
utf8-here None s e = nonsense (cc)
utf8-here (Some r) s e = go (well_formed r) refl e
  where
    go : (t : Bool) → well_formed r ≡ t → cond t (Some r) None ≡ Some s → (Some r ≡ Some s) × (well_formed s ≡ true)
    go true h e = (e, ap well_formed (cc) ∙ h)
    go false h e = nonsense (cc)

-- ---- what was read

module _ (table : List ℕ) where
  -- what stands from p up to q is written so, and nests no deeper than is left
  pub record Told (F : Form) (deep left p q end : ℕ) : Type 0 where
    pub low : p ≤ q
    pub high : q ≤ end
    pub written : F p (slice p q table)
    pub nests : deep ≤ left

  -- The same bytes are written as something else if that follows.
  pub told-as : {F : Form} (G : Form) {deep left p q end : ℕ} → ((bs : List ℕ) → F p bs → G p bs) → Told F deep left p q end → Told G deep left p q end
  told-as G {q} f t = record { low = t.low; high = t.high; written = f _ t.written; nests = t.nests }

  -- Nothing is written where nothing was read.
  pub nothing-told : (left p q end : ℕ) → p ≡ q → q ≤ end → Told nothing 0 left p q end
  nothing-told left p q end e h =
      record { low = omega arith; high = h; written = rw e (slice_empty q table); nests = omega arith }

  -- What was read one after the other is written one after the other.
  pub then-told : {F G : Form} {deep deeper left p m q end : ℕ} → end ≤ length table → Told F deep left p m end → Told G deeper left m q end
      → Told (F then G) (max deep deeper) left p q end
  then-told {F} {G} {p} {m} {q} inside x y =
      let a = x.low in let b = x.high in let c = y.low in let d = y.high in let f = x.nests in let g = y.nests in
      let place : p + length (slice p m table) ≡ m = rw (length-slice p m table (omega arith)) (omega arith) in
      record {
        low = omega arith;
        high = d;
        written = (slice p m table, slice m q table, sym (joined table p m q a c (omega arith)), x.written, rw place y.written);
        nests = omega arith;
      }

module _ (width : ℕ) (table text : List ℕ) where
  -- the reader tells what stands in the table
  abbrev pub TellsExpr : ℕ → Reader Expr → Type 0
  TellsExpr left R =
      (p end q : ℕ) (e : Expr) → p ≤ end → end ≤ length table → R p end ≡ got (e, q) → Told table (Written width text e) (depth e) left p q end

  -- the same for operands with or without a mark
  abbrev pub TellsPart : ℕ → Reader Part → Type 0
  TellsPart left P =
      (p end q : ℕ) (x : Part) → p ≤ end → end ≤ length table → P p end ≡ got (x, q)
      → Told table (WrittenPart width text x) (depth_part x) left p q end

  module _ (left : ℕ) (R : Reader Expr) (P : Reader Part) (tells_expr : TellsExpr left R) (tells_part : TellsPart left P) where
    -- elements, and how many there are
    abbrev pub ToldElements : ℕ → ℕ → ℕ → ℕ → Elements → Type 0
    ToldElements n p q end es = Told table (WrittenElements width text es) (depth_elements es) left p q end × (count_elements es ≡ n)

    add-told : (n p m q end : ℕ) (x : Part) (es : Elements) → end ≤ length table → Told table (WrittenPart width text x) (depth_part x) left p m end
        → ToldElements n m q end es → ToldElements (suc n) p q end (add_element x es)
    unfolding add_element count_elements
    add-told n p m q end (bare e) es inside t ts = (then-told table inside t ts.0, ap suc ts.1)
    add-told n p m q end (marked l e) es inside t ts = (then-told table inside t ts.0, ap suc ts.1)

    -- Elements that were read are written, and as many as were asked for.
    pub elements-told : (n p end q : ℕ) (es : Elements) → p ≤ end → end ≤ length table → elements_from P n p end ≡ got (es, q) → ToldElements n p q end es
    unfolding elements_from count_elements
    elements-told zero p end q es h inside e =
        let same : ◌≡◌ {A = Elements × ℕ} (no_elements, p) (es, q) = cc in
        subst (λ (r : Elements × ℕ). ToldElements 0 p r.1 end r.0) same (nothing-told table left p p end refl h, refl)
    elements-told (suc n) p end q es h inside e =
        went (P p end) _ (es, q) e λ a first e. went (elements_from P n a.1 end) _ (es, q) e λ b more e.
        let t = tells_part p end a.1 a.0 h inside first in
        let ts = elements-told n a.1 end b.1 b.0 t.high inside more in
        let same : ◌≡◌ {A = Elements × ℕ} (add_element a.0 b.0, b.1) (es, q) = cc in
        subst (λ (r : Elements × ℕ). ToldElements (suc n) p r.1 end r.0) same (add-told n p a.1 b.1 end a.0 b.0 inside t ts)

    -- entries, and how many there are
    abbrev pub ToldPairs : ℕ → ℕ → ℕ → ℕ → Pairs → Type 0
    ToldPairs n p q end es = Told table (WrittenPairs width text es) (depth_pairs es) left p q end × (count_pairs es ≡ n)

    put-told : (n p l m q end : ℕ) (k : Expr) (x : Part) (es : Pairs) → end ≤ length table → Told table (Written width text k) (depth k) left p l end
        → Told table (WrittenPart width text x) (depth_part x) left l m end → ToldPairs n m q end es → ToldPairs (suc n) p q end (add_pair k x es)
    unfolding add_pair count_pairs
    put-told n p l m q end k (bare e) es inside s t ts = (then-told table inside s (then-told table inside t ts.0), ap suc ts.1)
    put-told n p l m q end k (marked o e) es inside s t ts = (then-told table inside s (then-told table inside t ts.0), ap suc ts.1)

    -- Entries that were read are written, and as many as were asked for.
    pub pairs-told : (n p end q : ℕ) (es : Pairs) → p ≤ end → end ≤ length table → pairs_from R P n p end ≡ got (es, q) → ToldPairs n p q end es
    unfolding pairs_from count_pairs
    pairs-told zero p end q es h inside e =
        let same : ◌≡◌ {A = Pairs × ℕ} (no_pairs, p) (es, q) = cc in
        subst (λ (r : Pairs × ℕ). ToldPairs 0 p r.1 end r.0) same (nothing-told table left p p end refl h, refl)
    pairs-told (suc n) p end q es h inside e =
        went (R p end) _ (es, q) e λ a first e. went (P a.1 end) _ (es, q) e λ b second e.
        went (pairs_from R P n b.1 end) _ (es, q) e λ c more e.
        let s = tells_expr p end a.1 a.0 h inside first in
        let t = tells_part a.1 end b.1 b.0 s.high inside second in
        let ts = pairs-told n b.1 end c.1 c.0 t.high inside more in
        let same : ◌≡◌ {A = Pairs × ℕ} (add_pair a.0 b.0 c.0, c.1) (es, q) = cc in
        subst (λ (r : Pairs × ℕ). ToldPairs (suc n) p r.1 end r.0) same
        (put-told n p a.1 b.1 c.1 end a.0 b.0 c.0 inside s t ts)

-- Laws over all kinds of records, by their bytes: one for each kind is one for every kind, and the bytes of each head. Assumes nothing.
use mathlib.Core.Path.{◌≡◌, refl, ap, sym, ◌∙◌}
use mathlib.Core.List.{List, [], ◌∷◌}
use Prim.Native.Nat.{ℕ, zero, suc, ◌<◌, ◌≤◌}
use native.Mathlib.Omega.{arith}
use lib.ListN.{get_or}
use Rattle.meaning.specs.Kinds.{kinds}
use Rattle.meaning.specs.Heads.{fields_bytes, field_bytes}
use Rattle.table_layout.specs.Layout.{fields_at, row_of, head_bytes}
use mathlib.Core.Bool.{Bool, true, false, cond}
use lib.Dec.{ltb}
use borrow.Author.Tests.{ltb-true, ltb-false}
use Rattle.std.specs.Prelude.{Ok, Err}
use Rattle.meaning.specs.declared.refusal.Reason.{Reason}
use Rattle.meaning.specs.declared.refusal.Reason.TheVariants.{UnknownKind}
use Rattle.table_layout.specs.declared.kind.Kind.{Kind}
use Rattle.table_layout.specs.Kinds.{byte_of, kind_of, Known}

-- ---- by every kind

next : (P : ℕ → Type 0) (n : ℕ) → P 0 → ((k : ℕ) → k < n → P (suc k)) → (k : ℕ) → k < suc n → P k
next P n here there zero h = here
next P n here there (suc k) h = there k (omega arith)

nothing : (P : ℕ → Type 0) (k : ℕ) → k < 0 → P k
nothing P k h = absurd (omega arith)

pub every-kind : (P : ℕ → Type 0) → P 0 → P 1 → P 2 → P 3 → P 4 → P 5 → P 6 → P 7 → P 8 → P 9 → P 10 → P 11 → P 12 → P 13 → P 14 → P 15 → P 16 → (k : ℕ) →
    k < 17 → P k
every-kind P p0 p1 p2 p3 p4 p5 p6 p7 p8 p9 p10 p11 p12 p13 p14 p15 p16 =
    next P 16 p0
    (next (λ k. P (suc k)) 15 p1
    (next (λ k. P (suc (suc k))) 14 p2
    (next (λ k. P (suc (suc (suc k)))) 13 p3
    (next (λ k. P (suc (suc (suc (suc k))))) 12 p4
    (next (λ k. P (suc (suc (suc (suc (suc k)))))) 11 p5
    (next (λ k. P (suc (suc (suc (suc (suc (suc k))))))) 10 p6
    (next (λ k. P (suc (suc (suc (suc (suc (suc (suc k)))))))) 9 p7
    (next (λ k. P (suc (suc (suc (suc (suc (suc (suc (suc k))))))))) 8 p8
    (next (λ k. P (suc (suc (suc (suc (suc (suc (suc (suc (suc k)))))))))) 7 p9
    (next (λ k. P (suc (suc (suc (suc (suc (suc (suc (suc (suc (suc k))))))))))) 6 p10
    (next (λ k. P (suc (suc (suc (suc (suc (suc (suc (suc (suc (suc (suc k)))))))))))) 5 p11
    (next (λ k. P (suc (suc (suc (suc (suc (suc (suc (suc (suc (suc (suc (suc k))))))))))))) 4 p12
    (next (λ k. P (suc (suc (suc (suc (suc (suc (suc (suc (suc (suc (suc (suc (suc k)))))))))))))) 3 p13
    (next (λ k. P (suc (suc (suc (suc (suc (suc (suc (suc (suc (suc (suc (suc (suc (suc k))))))))))))))) 2 p14
    (next (λ k. P (suc (suc (suc (suc (suc (suc (suc (suc (suc (suc (suc (suc (suc (suc (suc k)))))))))))))))) 1 p15
    (next (λ k. P (suc (suc (suc (suc (suc (suc (suc (suc (suc (suc (suc (suc (suc (suc (suc (suc k))))))))))))))))) 0 p16
    (nothing (λ k. P (suc (suc (suc (suc (suc (suc (suc (suc (suc (suc (suc (suc (suc (suc (suc (suc (suc k)))))))))))))))))))))))))))))))))))

-- ---- heads

-- by kind byte
abbrev heads : List ℕ
heads = 3 ∷ 4 ∷ 11 ∷ 11 ∷ 11 ∷ 7 ∷ 7 ∷ 4 ∷ 4 ∷ 4 ∷ 3 ∷ 8 ∷ 5 ∷ 5 ∷ 3 ∷ 5 ∷ 4 ∷ []

pub head-table : (k : ℕ) → k < 17 → (get_or heads k 0 ≡ head_bytes k) × (fields_at ≤ get_or heads k 0) × (get_or heads k 0 ≤ 16)
unfolding head_bytes row_of kinds fields_bytes field_bytes
head-table =
    every-kind (λ k. (get_or heads k 0 ≡ head_bytes k) × (fields_at ≤ get_or heads k 0) × (get_or heads k 0 ≤ 16)) (refl, omega arith, omega arith)
    (refl, omega arith, omega arith) (refl, omega arith, omega arith) (refl, omega arith, omega arith) (refl, omega arith, omega arith)
    (refl, omega arith, omega arith) (refl, omega arith, omega arith) (refl, omega arith, omega arith) (refl, omega arith, omega arith)
    (refl, omega arith, omega arith) (refl, omega arith, omega arith) (refl, omega arith, omega arith) (refl, omega arith, omega arith)
    (refl, omega arith, omega arith) (refl, omega arith, omega arith) (refl, omega arith, omega arith) (refl, omega arith, omega arith)

pub head-is : {k : ℕ} (n : ℕ) → n < 17 → k ≡ n → head_bytes k ≡ get_or heads n 0
head-is n h e = ap head_bytes e ∙ sym (head-table n h).0

-- ---- the code's kinds

pub byte-of-kind : (b : ℕ) → b < 17 → byte_of (kind_of b) ≡ b
byte-of-kind =
    every-kind (λ b. byte_of (kind_of b) ≡ b) refl refl refl refl refl refl refl refl refl refl refl refl refl refl refl refl refl

known-by : (b : ℕ) {k : Kind} (t : Bool) → ltb b 17 ≡ t → Ok k ≡ cond t (Ok (kind_of b)) (Err UnknownKind) → (b < 17) × (k ≡ kind_of b) × (byte_of k ≡ b)
known-by b {k} true e f =
    let h = ltb-true b 17 e in
    let g : k ≡ kind_of b = cc in
    (h, g, ap byte_of g ∙ byte-of-kind b h)
known-by b false e f = let z : ◌≡◌ {A = ℕ} 0 1 = cc in absurd (omega arith)

pub known-kind : (b : ℕ) {k : Kind} → Known b (Ok k) → (b < 17) × (k ≡ kind_of b) × (byte_of k ≡ b)
known-kind b e = known-by b (ltb b 17) refl e

unknown-by : (b : ℕ) {r : Reason} (t : Bool) → ltb b 17 ≡ t → Err r ≡ cond t (Ok (kind_of b)) (Err UnknownKind) → (17 ≤ b) × (r ≡ UnknownKind)
unknown-by b true e f = let z : ◌≡◌ {A = ℕ} 0 1 = cc in absurd (omega arith)
unknown-by b false e f = (ltb-false b 17 e, cc)

pub unknown-kind : (b : ℕ) {r : Reason} → Known b (Err r) → (17 ≤ b) × (r ≡ UnknownKind)
unknown-kind b e = unknown-by b (ltb b 17) refl e

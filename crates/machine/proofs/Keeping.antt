-- Runs one after the other keep what both keep; what is alive below the counts is the same after a run. Rests on Words. Assumes nothing.
use Prim.Native.Nat.{ℕ, ◌*◌, ◌/◌, ◌≤◌, ◌<◌, min}
use mathlib.Core.Path.{◌≡◌, refl, sym, ap, ◌∙◌, subst}
use mathlib.Core.Logic.{inl, inr}
use native.Mathlib.Omega.{arith}
use lib.ListN.{length, take, drop}
use Rattle.meaning.specs.Limits.{Counts, most_cells, most_bytes}
use Rattle.rooms.specs.declared.value.CellSpace.{CellSpace}
use Rattle.rooms.specs.declared.value.CellSpace.TheVariants as Cells
use Rattle.rooms.specs.Rooms.{Rooms, cell_at}
use Rattle.rooms.specs.Stands.{Alive, Agrees}
use Rattle.rooms_taking.specs.Taking.{cell_room, text_room}
use Rattle.machine.specs.Refines.{Live, Upto, Roomy, Keeps, Below}
use Rattle.machine.proofs.Words.{take-lower, drop-higher, low-cell, binding-cell}

-- ---- counts

pub upto-same : (u : Counts) → Upto u u
upto-same u = record { cells = omega arith; bytes = omega arith }

pub upto-then : (u v w : Counts) → Upto u v → Upto v w → Upto u w
upto-then u v w a b = record { cells = omega (arith, a.cells, b.cells); bytes = omega (arith, a.bytes, b.bytes) }

-- rooms of one size have room for the same counts
same-cells : (r q : Rooms) → length q.cells ≡ length r.cells → cell_room q.cells ≡ cell_room r.cells
same-cells r q e = ap (λ n. min (n / 2) most_cells) e

same_text : (r q : Rooms) → length q.text ≡ length r.text → text_room q.text ≡ text_room r.text
same_text r q e = ap (λ n. min n most_bytes) e

pub roomy-same : (u : Counts) (r q : Rooms) → length q.cells ≡ length r.cells → length q.text ≡ length r.text → Roomy u r → Roomy u q
roomy-same u r q e f h = record { cells = subst (λ n. u.cells ≤ n) (sym (same-cells r q e)) h.cells; bytes = subst (λ n. u.bytes ≤ n) (sym (same_text r q f)) h.bytes }

-- ---- what is kept

module _ (lo hi : Counts) (r q : Rooms) (k : Keeps lo hi r q) where
  pub keeps-cells : cell_room q.cells ≡ cell_room r.cells
  keeps-cells = same-cells r q k.sized

  pub keeps-text : text_room q.text ≡ text_room r.text
  keeps-text = same_text r q k.text_sized

  pub keeps-roomy : Roomy hi q
  keeps-roomy = roomy-same hi r q k.sized k.text_sized k.fits

  pub keeps-back : (u : Counts) → Roomy u q → Roomy u r
  keeps-back u h = roomy-same u q r (sym k.sized) (sym k.text_sized) h

pub keeps_same : (lo hi : Counts) (r : Rooms) → Upto lo hi → Roomy hi r → Keeps lo hi r r
keeps_same lo hi r g f =
    record { literals = refl; binding_cells = refl; binding_texts = refl; sized = refl; low = refl; high = refl; text_sized = refl; text_low = refl; text_high = refl; grows = g; fits = f; fitting = λ w. w }

-- the low end may be lower, the high end higher
pub keeps-lower : (o lo hi : Counts) (r q : Rooms) → Upto o lo → Keeps lo hi r q → Keeps o hi r q
keeps-lower o lo hi r q b k =
    record {
      literals = k.literals;
      binding_cells = k.binding_cells;
      binding_texts = k.binding_texts;
      sized = k.sized;
      low = take-lower (o.cells * 2) (lo.cells * 2) r.cells q.cells (omega (arith, b.cells)) k.low;
      high = k.high;
      text_sized = k.text_sized;
      text_low = take-lower o.bytes lo.bytes r.text q.text b.bytes k.text_low;
      text_high = k.text_high;
      grows = upto-then o lo hi b k.grows;
      fits = k.fits;
      fitting = k.fitting;
    }

pub keeps-higher : (lo hi top : Counts) (r q : Rooms) → Upto hi top → Roomy top r → Keeps lo hi r q → Keeps lo top r q
keeps-higher lo hi top r q b f k =
    record {
      literals = k.literals;
      binding_cells = k.binding_cells;
      binding_texts = k.binding_texts;
      sized = k.sized;
      low = k.low;
      high = drop-higher (hi.cells * 2) (top.cells * 2) r.cells q.cells (omega (arith, b.cells)) k.high;
      text_sized = k.text_sized;
      text_low = k.text_low;
      text_high = drop-higher hi.bytes top.bytes r.text q.text b.bytes k.text_high;
      grows = upto-then lo hi top k.grows b;
      fits = f;
      fitting = k.fitting;
    }

-- two runs between the same counts
pub keeps-both : (lo hi : Counts) (r q p : Rooms) → Keeps lo hi r q → Keeps lo hi q p → Keeps lo hi r p
keeps-both lo hi r q p a b =
    record {
      literals = b.literals ∙ a.literals;
      binding_cells = b.binding_cells ∙ a.binding_cells;
      binding_texts = b.binding_texts ∙ a.binding_texts;
      sized = b.sized ∙ a.sized;
      low = b.low ∙ a.low;
      high = b.high ∙ a.high;
      text_sized = b.text_sized ∙ a.text_sized;
      text_low = b.text_low ∙ a.text_low;
      text_high = b.text_high ∙ a.text_high;
      grows = a.grows;
      fits = a.fits;
      fitting = λ w. b.fitting (a.fitting w);
    }

-- one run after the other
pub keeps_then : (lo mid hi : Counts) (r q p : Rooms) → Keeps lo mid r q → Keeps mid hi q p → Keeps lo hi r p
keeps_then lo mid hi r q p a b =
    keeps-both lo hi r q p (keeps-higher lo mid hi r q b.grows (keeps-back lo mid r q a hi b.fits) a) (keeps-lower lo mid hi q p a.grows b)

-- steps are no part of it
pub keeps-steps : (lo hi low high : Counts) (r q : Rooms) → lo.cells ≡ low.cells → lo.bytes ≡ low.bytes → hi.cells ≡ high.cells → hi.bytes ≡ high.bytes → Keeps lo hi r q → Keeps low high r q
keeps-steps lo hi low high r q a b c d k =
    record {
      literals = k.literals;
      binding_cells = k.binding_cells;
      binding_texts = k.binding_texts;
      sized = k.sized;
      low = subst (λ n. take (n * 2) q.cells ≡ take (n * 2) r.cells) a k.low;
      high = subst (λ n. drop (n * 2) q.cells ≡ drop (n * 2) r.cells) c k.high;
      text_sized = k.text_sized;
      text_low = subst (λ n. take n q.text ≡ take n r.text) b k.text_low;
      text_high = subst (λ n. drop n q.text ≡ drop n r.text) d k.text_high;
      grows = record { cells = omega (arith, k.grows.cells); bytes = omega (arith, k.grows.bytes) };
      fits = record { cells = omega (arith, k.fits.cells); bytes = omega (arith, k.fits.bytes) };
      fitting = k.fitting;
    }

-- ---- what is alive

pub keeps-agrees : (L : Alive) (u c : Counts) (r q : Rooms) → Below L u → Keeps u c r q → Agrees L (Live L u c) r q
keeps-agrees L u c r q b k =
    record {
      sub = λ space i h. inl h;
      same = same;
      longer = omega (arith, b.bytes, k.grows.bytes);
      texts = take-lower L.bytes u.bytes r.text q.text b.bytes k.text_low;
      literals = k.literals;
      binding_texts = k.binding_texts;
    }
  where
    same : (space : CellSpace) (i : ℕ) → L.cells space i → cell_at q space i ≡ cell_at r space i
    same Cells.Binding i h = binding-cell u c r q k i
    same Cells.Evaluation i h = low-cell u c r q k i (b.cells i h)

pub agrees-sub : (L M : Alive) (r : Rooms) → ((space : CellSpace) (i : ℕ) → L.cells space i → M.cells space i) → L.bytes ≤ M.bytes → Agrees L M r r
agrees-sub L M r s l = record { sub = s; same = λ space i h. refl; longer = l; texts = refl; literals = refl; binding_texts = refl }

pub agrees-narrow : (L M : Alive) (r q : Rooms) → Agrees L M r q → Agrees L L r q
agrees-narrow L M r q a = record { sub = λ space i h. h; same = a.same; longer = omega arith; texts = a.texts; literals = a.literals; binding_texts = a.binding_texts }

pub agrees-then : (L M N : Alive) (r q p : Rooms) → Agrees L M r q → Agrees M N q p → Agrees L N r p
agrees-then L M N r q p a b =
    record {
      sub = λ space i h. b.sub space i (a.sub space i h);
      same = λ space i h. b.same space i (a.sub space i h) ∙ a.same space i h;
      longer = omega (arith, a.longer, b.longer);
      texts = take-lower L.bytes M.bytes q.text p.text a.longer b.texts ∙ a.texts;
      literals = b.literals ∙ a.literals;
      binding_texts = b.binding_texts ∙ a.binding_texts;
    }

pub live_below : (L : Alive) (u c : Counts) → Below L u → Upto u c → Below (Live L u c) c
live_below L u c b k = record { cells = under; bytes = omega arith }
  where
    under : (i : ℕ) → (Live L u c).cells Cells.Evaluation i → i < c.cells
    under i (inl h) = omega (arith, b.cells i h, k.cells)
    under i (inr h) = h.2

-- what a run took after another is what both took
pub live-sub : (L : Alive) (lo mid hi : Counts) → Upto lo mid → Upto mid hi → (space : CellSpace) (i : ℕ) → (Live (Live L lo mid) mid hi).cells space i → (Live L lo hi).cells space i
live-sub L lo mid hi a b space i (inl (inl h)) = inl h
live-sub L lo mid hi a b space i (inl (inr h)) = inr (h.0, h.1, omega (arith, h.2, b.cells))
live-sub L lo mid hi a b space i (inr h) = inr (h.0, omega (arith, h.1, a.cells), h.2)

pub live-wider : (L : Alive) (lo mid hi : Counts) → Upto mid hi → (space : CellSpace) (i : ℕ) → (Live L lo mid).cells space i → (Live L lo hi).cells space i
live-wider L lo mid hi b space i (inl h) = inl h
live-wider L lo mid hi b space i (inr h) = inr (h.0, h.1, omega (arith, h.2, b.cells))

-- Modules 3 and 5 on rooms: look-up, `in`, select, index and optional select.
use Rattle.std.specs.Prelude.{ℕ, ◌+◌, Bool, true, false, cond}
use Rattle.rooms.specs.declared.value.Value.{Value}
use Rattle.rooms.specs.declared.value.CellSpace.{CellSpace}
use Rattle.rooms.specs.declared.value.Parts.{Parts}
use Rattle.rooms_text.specs.declared.sizes.Position.{Position}
use Rattle.rooms.specs.Value.{parts_of, is_key}
use Rattle.rooms.specs.Rooms.{Rooms, cell_at}
use Rattle.rooms_comparison.specs.LookUp.{find_in}
use Rattle.rooms_comparison.specs.Equality.{among_in}
use Rattle.rooms_text.specs.Sizes.{position_of}
use Rattle.machine.specs.declared.outcome.Used.{Used}
use Rattle.machine.specs.declared.outcome.Error.TheVariants as Error
use Rattle.machine.specs.declared.outcome.Outcome.{Outcome}
use Rattle.machine.specs.Outcomes.{Res, truth_out, no_overload, present}
use Rattle.machine.specs.Views.{is_string, Optional, not_optional, none_present, optional_in}
use Rattle.machine.specs.Views as Views
use Rattle.machine.specs.Comparison.{on_pairs, on_found}

-- ---- look-up

-- an element of the list whose cells begin at a
abbrev pub element_out : ℕ → Rooms → CellSpace → ℕ → Used → Position → Outcome
element_out p r s a u (Position.At i) = Outcome.Value (cell_at r s (a + i)) u
element_out p r s a u Position.Outside = Outcome.Error Error.IndexOutOfBounds p u
element_out p r s a u Position.Unsuited = no_overload p u

module _ (limit : ℕ) where
  abbrev pub entry_out : ℕ → Rooms → CellSpace → (a n : ℕ) → Value → Used → Outcome
  entry_out p r s a n i u =
      on_found (find_in limit r i s a n u.steps) u (λ c w. Outcome.Value (cell_at r s c) w) (λ w. Outcome.Error Error.NoSuchKey p w)

  abbrev pub look_up_in : ℕ → Rooms → Value → Used → Parts → Outcome
  look_up_in p r i u (Parts.Elements ro) = element_out p r ro.space ro.first u (position_of i ro.length)
  look_up_in p r i u (Parts.Entries ro) = cond (is_key i) (entry_out p r ro.space ro.first ro.length i u) (no_overload p u)
  look_up_in p r i u (Parts.Present s a) = no_overload p u
  look_up_in p r i u Parts.Nothing = no_overload p u

  -- the value in a container at an index or a key
  abbrev pub look_up : ℕ → Rooms → Value → Value → Used → Outcome
  look_up p r c i u = look_up_in p r i u (parts_of c)

  abbrev pub in_parts : ℕ → Rooms → Value → Used → Parts → Outcome
  in_parts p r v u (Parts.Elements ro) = on_pairs (among_in limit r v ro.space ro.first ro.length u.steps) u (λ b w. truth_out b w)
  in_parts p r v u (Parts.Entries ro) =
      cond (is_key v) (on_found (find_in limit r v ro.space ro.first ro.length u.steps) u (λ c w. truth_out true w) (λ w. truth_out false w)) (no_overload p u)
  in_parts p r v u (Parts.Present s a) = no_overload p u
  in_parts p r v u Parts.Nothing = no_overload p u

-- ---- what becomes of a look-up

-- a present Optional, or none for whatever error
abbrev pub optionally : Outcome → Rooms → Res
optionally (Outcome.Value v u) r = present v u r
optionally (Outcome.Error e p u) r = (Outcome.Value Value.OptionalNone u, r)
optionally (Outcome.Exhausted x u) r = (Outcome.Exhausted x u, r)

-- whether it finds something
abbrev pub tells : Outcome → Outcome
tells (Outcome.Value v u) = truth_out true u
tells (Outcome.Error e p u) = truth_out false u
tells (Outcome.Exhausted x u) = Outcome.Exhausted x u

-- ---- select

abbrev pub select_in_container : (test : Bool) → Outcome → Rooms → Res
select_in_container true o r = (tells o, r)
select_in_container false o r = optionally o r

abbrev pub select_in_map : (test : Bool) → Outcome → Rooms → Res
select_in_map true o r = (tells o, r)
select_in_map false o r = (o, r)

abbrev pub select_in_none : (test : Bool) → Used → Outcome
select_in_none true u = truth_out false u
select_in_none false u = Outcome.Value Value.OptionalNone u

-- from what has no parts
abbrev pub select_plain : (p : ℕ) (test : Bool) → Optional → Used → Outcome
select_plain p test not_optional u = no_overload p u
select_plain p test none_present u = select_in_none test u
select_plain p test (Views.present s a) u = no_overload p u

module _ (limit : ℕ) (p : ℕ) (test : Bool) (field : Value) where
  abbrev pub select_in_present : Value → Parts → Used → Rooms → Res
  select_in_present c (Parts.Elements ro) u r = select_in_container test (look_up limit p r c field u) r
  select_in_present c (Parts.Entries ro) u r = select_in_container test (look_up limit p r c field u) r
  select_in_present c (Parts.Present s a) u r = (Outcome.Error Error.NoSuchKey p u, r)
  select_in_present c Parts.Nothing u r = (Outcome.Error Error.NoSuchKey p u, r)

  abbrev pub select_parts : Value → Parts → Used → Rooms → Res
  select_parts v (Parts.Elements ro) u r = (no_overload p u, r)
  select_parts v (Parts.Entries ro) u r = select_in_map test (look_up limit p r v field u) r
  select_parts v (Parts.Present s a) u r = select_in_present (cell_at r s a) (parts_of (cell_at r s a)) u r
  select_parts v Parts.Nothing u r = (select_plain p test (optional_in v) u, r)

  abbrev pub select_field : Value → Used → Rooms → Res
  select_field v u r = select_parts v (parts_of v) u r

-- ---- index and optional select

abbrev pub perhaps : (optional : Bool) → Outcome → Rooms → Res
perhaps true o r = optionally o r
perhaps false o r = (o, r)

module _ (limit : ℕ) (p : ℕ) where
  abbrev pub index_in : (optional : Bool) → Value → Value → Used → Rooms → Optional → Res
  index_in optional v i u r not_optional = perhaps optional (look_up limit p r v i u) r
  index_in optional v i u r none_present = (Outcome.Value Value.OptionalNone u, r)
  index_in optional v i u r (Views.present s a) = optionally (look_up limit p r (cell_at r s a) i u) r

  abbrev pub index : (optional : Bool) → Value → Value → Used → Rooms → Res
  index optional v i u r = index_in optional v i u r (optional_in v)

  abbrev pub opt_select : Value → Value → Used → Rooms → Res
  opt_select v w u r = cond (is_string w) (index true v w u r) (Outcome.Error Error.FunctionError p u, r)

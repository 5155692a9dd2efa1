-- `keys::key_fault` meets its contract. Assumes nothing.
use mathlib.Core.Path.{sym, ◌∙◌}
use native.Mathlib.Omega.{arith}
use Rattle.bindings_literals.proofs.Rows.{sound-place}
use Rattle.bindings_literals.proofs.KeyLaws.{no_key, key-again, key-new}
use Rattle.bindings_literals.proofs.keys.key_fault.Goals as goal
use Rattle.bindings_literals.proofs.keys.key_fault.Goals.{then-not-is_key-via-then-not-is_key, then-not-is_key-via-else-not-is_key+then-repeated}

pub literal_at-key-requires : goal.literal_at-key-requires
literal_at-key-requires c = let p = sound-place c.args.table.now c.args.literal.now c.args.at c.requires.1 in (p.known, p.head)

pub repeated-requires : goal.repeated-requires
repeated-requires c = c.requires.0

pub returns-then-not-is_key : goal.returns-then-not-is_key
returns-then-not-is_key c =
    elim c.then-not-is_key.branch [
      | then-not-is_key-via-then-not-is_key w ↦
          no_key c.args.table.now c.args.literal.now (λ i. omega (arith, c.shared_slice_known-1.given i)) c.args.count c.args.first c.args.at c.requires.0
          c.literal_at-key.result c.literal_at-key.ensures c.requires.1 (sym c.is_key.ensures ∙ w.if-not-is_key.true)
      | then-not-is_key-via-else-not-is_key+then-repeated w ↦
          key-again c.args.table.now c.args.literal.now (λ i. omega (arith, c.shared_slice_known-1.given i)) c.args.count c.args.first c.args.at c.requires.0
          c.literal_at-key.result c.literal_at-key.ensures c.requires.1 (sym c.is_key.ensures ∙ w.if-not-is_key.false) (sym w.repeated.ensures ∙ w.if-repeated.true)
    ]

pub returns : goal.returns
returns c =
    key-new c.args.table.now c.args.literal.now (λ i. omega (arith, c.shared_slice_known-1.given i)) c.args.count c.args.first c.args.at c.requires.0
    c.literal_at-key.result c.literal_at-key.ensures c.requires.1 (sym c.is_key.ensures ∙ c.if-not-is_key.false) (sym c.repeated.ensures ∙ c.if-repeated.false)

-- Both bytes lie inside, so what is left of the rule is its test.
use mathlib.Core.Path.{refl, sym, ◌∙◌}
use Prim.Native.Nat.{◌+◌}
use Rattle.fields.proofs.Laws.{num-two, length_part, valid-field}
use Rattle.layout.specs.Banks.{entry_at}
use native.Mathlib.Omega.{arith}
use Rattle.entry_validation.proofs.whole.entry_valid.Goals as goal
use Rattle.format.specs.declared.refusals.Reason.TheVariants as reason

pub overflow_cast-result : goal.overflow_cast-result
overflow_cast-result c = omega (arith, c.type_inv.f c.args.p)

pub overflow_cast-result-2 : goal.overflow_cast-result-2
overflow_cast-result-2 c = omega (arith, c.type_inv.f (c.args.p + 1))

pub overflow_mul-result : goal.overflow_mul-result
overflow_mul-result c = omega (arith, c.type_inv.f (c.args.p + 1))

pub overflow_add-result-2 : goal.overflow_add-result-2
overflow_add-result-2 c =
    let p = c.args.p in
    omega (arith, c.type_inv.f p, c.type_inv.f (p + 1))

pub returns : goal.returns
unfolding entry_at
returns c =
    let start = c in
    let f = start.args.f.now in
    let p = start.args.p in
    rw (num-two f p _ _ refl refl, start.requires.1) (sym (valid-field _ p 0 2 reason.BankEntry _ ∙ rw (length_part f p 2 (omega arith))))

-- The count may grow, so the new one fits.
use Prim.Native.Nat.{◌≤◌, ◌<◌}
use Rattle.layout.specs.Places.{contact_count}
use Rattle.edit_plan.proofs.PlanLaws.{insert-contact-there, insert-contact}
use native.Mathlib.Omega.{arith}
use Rattle.edit_plan.proofs.insert_contact.Goals as goal
use Rattle.edit_plan.proofs.insert_contact.Goals.{After-shared_slice_known-1}

there : (c : After-shared_slice_known-1)
    → (c.args.i ≤ contact_count c.args.f.now) × (contact_count c.args.f.now < 65535)
there c = insert-contact-there c.args.f.now (λ n. (c.type_inv.f n).fits) c.args.i 0 c.requires

pub overflow_cast-count : goal.overflow_cast-count
overflow_cast-count c = record { fits = omega (arith, there (goal.at.overflow_cast-count c).After-shared_slice_known-1) }

pub contact_place-at-requires : goal.contact_place-at-requires
contact_place-at-requires c = omega (arith, there (goal.at.contact_place-at-requires c).After-shared_slice_known-1)

pub returns : goal.returns
returns c =
    let b = c in
    let s = b in
    insert-contact _ (λ n. (s.type_inv.f n).fits) _ _ _ s.requires c.contact_place-at.ensures.0 (rw b.contact_count.ensures.0)

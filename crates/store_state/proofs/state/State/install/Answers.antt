use Rattle.std.proofs.Common.{◌≡◌, ◌<◌, ℕ, ap, sym, ◌∙◌, subst, arith}
use Rattle.comp_dir.specs.declared.places.TheConstants.{LSN_LIMIT}
use Rattle.build_job.specs.Jobs.{described}
use Rattle.store_state.specs.Lists.{Lists, job_of}
use Rattle.store_state.proofs.Keeping.{installed-as}
use Rattle.store_state.proofs.state.State.install.Goals as goal

pub invariant_of-self : goal.invariant_of-self
invariant_of-self c =
    let cut : c.self.inside.cut ≡ c.args.self.now.0.cut = ap (λ v. v.0.cut) c.self.view_is in
    let below : c.self.inside.cut < LSN_LIMIT = let limit = c.requires.below in omega (arith, limit) in
    installed-as _ c.in-Some.row c.add.new.self c.args.slot c.self.invariant c.in-Some.is below
    (subst (λ (v : Lists × ℕ). c.args.slot ≡ described (job_of v.0 c.in-Some.row)) (sym c.self.view_is)
    (c.requires.described c.in-Some.row (sym (ap (λ v. v.0.job) c.self.view_is) ∙ c.in-Some.is))) c.add.ensures

pub returns-in-Some-clause-sound : goal.returns-in-Some-clause-sound
returns-in-Some-clause-sound c = invariant_of-self c

-- The slot of a job keeps the rule of a slot. No public contract needs these laws.
use Rattle.std.proofs.Common.{◌≡◌, ℕ, arith, refl, subst, sym, inl}
use Rattle.comp_dir.specs.declared.slots.Slot.{Slot}
use Rattle.comp_dir.specs.Rules.{IsSound}
use Rattle.build_job.specs.Jobs.{Job, described}
use Rattle.build_job.specs.Steps.{IsJob, IsPlaceable}

pub described-IsSound : (pages declared : ℕ) (job : Job) → IsJob job → IsPlaceable pages job → IsSound pages declared (described job)
described-IsSound pages declared job is stands =
    let counts = is.pages.counts in
    record {
      index = inl refl;
      extent = record { some = omega arith; from = stands.from; to = stands.to };
      interval = record { from = stands.some; ordered = stands.ordered; below = stands.below };
      parts = record {
        main = job.plan.extent.pages;
        main_pages = record { root = is.pages.root; is_root = is.pages.is_root; counts = is.pages.counts };
        main_inside = omega arith;
        second = 0;
        second_pages = record { deleted = λ e. absurd (omega (arith, e)); postings = λ e. absurd (omega (arith, e)); none = λ _ _. (refl, refl, refl) };
        second_inside = omega arith;
        apart = inl refl;
      };
      no_more = record { no_place = refl; no_bits = refl; table_rows = λ other. absurd (other refl) };
    }

pub same_slot : (pages declared : ℕ) (one other : Slot) → one ≡ other → IsSound pages declared other → IsSound pages declared one
same_slot pages declared one other e is = subst (IsSound pages declared) (sym e) is

use Rattle.std.proofs.Common.{◌≡◌, ℕ, List, length, slice_index, rules, sym, ◌∙◌, ap, subst}
use Rattle.std.proofs.lemmas.List.{with_items_is}
use Rattle.dev_model.specs.Story.{IsImage}
use Rattle.mem_device.specs.Memory.{MemoryState, story_of}
use Rattle.dev_model.specs.Story.{place}
use Rattle.mem_device.specs.TornImages.{image_at}
use Rattle.mem_device.proofs.Allowed.{image_at-IsImage}
use Rattle.mem_device.proofs.memory.MemDevice.image_at.Goals as goal

pub returns-clause-allowed : goal.returns-clause-allowed
returns-clause-allowed c =
    let f = c.self.inside in
    let now = c.args.self.now in
    let copied : c.in_ok-image.image.items ≡ f.start.items = search rules in
    let buffer : c.deref_mut-2.result.now ≡ f.start.items = c.deref_mut-2.ensures.value ∙ copied in
    let size : length c.replay.new.image ≡ c.in_ok-image.image.len = c.replay.auto.image ∙ c.deref_mut-2.ensures.len in
    let whole = with_items_is c.in_ok-image.image c.replay.new.image size in
    let image = λ (i : ℕ). ap (λ (l : List ℕ). slice_index l i) whole ∙ c.replay.ensures i
    ∙ ap (λ (l : List ℕ). image_at c.args.torn (place l) f.kept.past c.args.moment i) buffer
    ∙ ap (λ (d : MemoryState). image_at c.args.torn (place d.start) d.past c.args.moment i) c.self.view_is in
    subst (IsImage (story_of now) c.args.moment) (λ j i. sym (image i) j) (image_at-IsImage c.args.torn now.start now.past c.args.moment)

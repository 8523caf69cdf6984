use Rattle.std.proofs.Common.{ℕ, List, ◌∙◌, ap}
use Rattle.device_pages.specs.Laws.Lending.{contents-told, contents-spared, page_bytes-spared}
use Rattle.device_pages.proofs.laws.spared_pages_stay.Goals as goal

pub returns : goal.returns
returns c = λ extents contents s calls told spared. record {
  told = contents-spared extents s calls contents told spared;
  same = λ page lent. page_bytes-spared extents s calls page lent spared ∙ ap (λ (f : ℕ → List ℕ). f page) (contents-told extents s contents told).1;
}

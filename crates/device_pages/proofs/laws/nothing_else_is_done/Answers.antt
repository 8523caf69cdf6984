use Rattle.std.proofs.Common.{◌*◌, All, refl}
use Rattle.std.proofs.lemmas.List.Elements.{All-contains_itself}
use Rattle.device_pages.specs.declared.lending.TheConstants.{PAGE_BYTES}
use Rattle.device_pages.specs.Asked.{pages_of}
use Rattle.device_pages.specs.Claims.{IsPageAsked}
use Rattle.device_pages.specs.Laws.Asked.{ReadsWithin-asked}
use Rattle.device_pages.proofs.laws.nothing_else_is_done.Goals as goal

pub returns : goal.returns
returns c = λ asked old new s went told.
    let each : All (λ page. IsPageAsked asked (page * PAGE_BYTES) PAGE_BYTES) (pages_of asked) =
    λ k d h. record { page = _; is_asked = All-contains_itself (pages_of asked) k d h; place = refl; size = refl } in
    ReadsWithin-asked (IsPageAsked asked) asked old new s went told each

use Rattle.std.proofs.Common.{◌≡◌, Bool, false, List, ◌∷◌, [], Option, subst}
use Rattle.std.specs.Prelude.{MatchOption}
use Rattle.accesses.specs.Accesses.{Access, Place}
use Rattle.accesses.specs.Kept.{HasSpare, kept_at, kept_in}
use Rattle.accesses.specs.Links.{AreAt, AreLinksOf, links_of}
use Rattle.accesses.specs.Places.{place_of}
use Rattle.accesses.specs.declared.lasts.PlaceAccesses.{PlaceAccesses}
use Rattle.accesses.specs.declared.place.Place.{Place as Key}
use Rattle.accesses.proofs.Entries.{found_out, on_ok}
use Rattle.accesses.proofs.Found.{links_of_found}
use Rattle.accesses.proofs.accesses.Accesses.push_at.Goals as goal

pub returns-in-Some : goal.returns-in-Some
returns-in-Some c =
    let es = c.self.inside.lasts.entries in
    let key = c.in-Some.field-0-0.now in
    let here = c.in-Some.lasts.now in
    let kept = kept_in es in
    let number = c.args.number in
    let main = c.args.is_main in
    rw (← c.self.view_is)
    (on_ok c.push_links.result
    (λ are x ready same.
    let one : Bool → List Access = λ b. record { place = x.place; is_main = b } ∷ [] in
    let place = (found_out (λ e. (place_of e.0 ≡ x.place) × (x.is_main ≡ false → HasSpare e.1)) es c.args.index (key, here) c.in-Some.ensures.entry ready).0 in
    let at = subst (λ (p : Place). AreAt kept p (kept_at p here)) place c.in-Some.ensures.kept in (
      links_of main number here,
      are,
      subst (λ b. AreLinksOf kept number (one b) (links_of main number here)) same (links_of_found kept x.place main number here at),
    ))
    c.push_links.ensures)

pub returns-in-None : goal.returns-in-None
returns-in-None c =
    rw (← c.self.view_is)
    (λ x ready same.
    absurd (subst (λ (o : Option (Key × PlaceAccesses)). MatchOption o ⊥ (λ e. (place_of e.0 ≡ x.place) × (x.is_main ≡ false → HasSpare e.1))) c.in-None.ensures.entry ready))

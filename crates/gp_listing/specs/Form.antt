-- What is listed for a line of a capture, in each form.
use Rattle.std.specs.Prelude.{ℕ, List, Option}
use Rattle.gp_base.specs.declared.identity.Key.{Key}
use Rattle.gp_listing.specs.declared.form.ListingForm.{ListingForm}
use Rattle.gp_listing.specs.declared.form.Style.{Style}
use Rattle.gp_listing.specs.declared.form.Style.TheVariants.{Text, Json}
use Rattle.gp_listing.specs.Listing.{listing}
use Rattle.gp_listing.specs.Json.{json_listing}

abbrev pub listing_in : Style → Option Key → List ℕ → Option (List ℕ)
listing_in Text key line = listing key line
listing_in Json key line = json_listing key line

abbrev pub listing_of : ListingForm → List ℕ → Option (List ℕ)
listing_of form line = listing_in form.style form.key line

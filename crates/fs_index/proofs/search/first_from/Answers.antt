use Rattle.std.proofs.Common.{◌≡◌, ℕ, List, length, get_or, ltb, Option, Some, None, refl, sym, ◌∙◌, Bor}
use Rattle.std.specs.Prelude.{slice_get, IfSome, is_some}
use Rattle.std.specs.Option.{option_copied}
use Rattle.std.proofs.lemmas.Bool.{ltb-true, ltb-false}
use Rattle.std.proofs.lemmas.Option.{slice_get_past, slice_get_read}
use Rattle.fs_index.specs.declared.place.Place.{Place}
use Rattle.fs_index.proofs.Finding.{first_behind}
use Rattle.fs_index.proofs.search.first_from.Goals as goal

got : (xs : List Place) (n : ℕ) (r : Option (Bor Place)) → is_some r ≡ ltb n (length xs) → IfSome r (λ x. x.now ≡ get_or xs n x.now) → option_copied r ≡ slice_get xs n
got xs n None within at = sym (slice_get_past xs n (ltb-false n (length xs) (sym within)))
got xs n (Some x) within at = sym (slice_get_read xs (length xs) n x.now refl (ltb-true n (length xs) (sym within)) at)

pub returns : goal.returns
returns c =
    c.copied.ensures ∙ got c.args.places.now c.count_below-behind.result c.get.result c.get.ensures.lookup.0 c.get.ensures.lookup.1 ∙ first_behind c.args.front c.args.places.now c.count_below-behind.result c.count_below-behind.ensures.first

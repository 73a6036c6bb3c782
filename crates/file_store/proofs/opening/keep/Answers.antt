use Rattle.std.proofs.Common.{◌∙◌, List, None, ap}
use Rattle.std.specs.List.{last_or}
use Rattle.std.specs.Option.{option_map_or}
use Rattle.fs_index.specs.declared.place.Place.{Place}
use Rattle.file_store.proofs.Opens.{kept_of}
use Rattle.file_store.proofs.opening.keep.Goals as goal

pub returns-clause-kept : goal.returns-clause-kept
returns-clause-kept c = λ bytes whole fits within.
    kept_of bytes c.args.opened c.new.result c.newest_of-newest.result whole fits within c.requires.limit
    (c.newest_of-newest.ensures ∙ ap (λ (ps : List Place). option_map_or (λ p. p.serial) (last_or None ps) 0) c.transactions.ensures.value) c.new.ensures

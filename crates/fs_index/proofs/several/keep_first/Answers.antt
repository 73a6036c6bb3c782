use Rattle.std.proofs.Common.{ap}
use Rattle.fs_index.specs.Places.{PlacesKept}
use Rattle.fs_index.proofs.Slots.{first_added, first_any, others_keep}
use Rattle.fs_index.proofs.several.keep_first.Goals as goal

pub returns-clause-added : goal.returns-clause-added
returns-clause-added c = λ rest none. first_added c.args.slots.now.items c.oid.inside.0 c.args.oid c.one.result c.args.place rest c.oid.view_is c.requires.within c.requires.absent none (ap (λ (k : PlacesKept). k.places) c.one.ensures)

pub returns-clause-others : goal.returns-clause-others
returns-clause-others c = λ rest o other room. others_keep c.args.slots.now.items c.oid.inside.0 c.args.oid c.one.result rest o c.oid.view_is c.requires.within (first_any c.one.result c.args.place (ap (λ (k : PlacesKept). k.places) c.one.ensures)) other room

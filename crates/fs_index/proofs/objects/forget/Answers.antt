use Rattle.fs_index.proofs.Alone.{forgot}
use Rattle.fs_index.proofs.objects.forget.Goals as goal

pub returns : goal.returns
returns c = λ rest o. forgot c.args.alone.now.items c.oid.inside.0 c.args.oid c.no_place.result rest o c.oid.view_is c.requires c.no_place.ensures

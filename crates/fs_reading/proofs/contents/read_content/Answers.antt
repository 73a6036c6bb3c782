use Rattle.std.proofs.Common.{ℕ, List, ap, sym, subst}
use Rattle.zb_model.specs.declared.data.Content.{Content}
use Rattle.fs_records.specs.Blocks.{content_at}
use Rattle.zb_volume.specs.Disk.{main_bytes}
use Rattle.fs_reading.specs.Sources.{IsKnownPlace}
use Rattle.fs_reading.specs.Standing.{IsContent}
use Rattle.fs_reading.specs.Histories.{content_known}
use Rattle.fs_reading.proofs.Chains.{head_within}
use Rattle.fs_reading.proofs.contents.read_content.Goals as goal

there : (bytes : List ℕ) (at : ℕ) → IsKnownPlace bytes at → (content : Content) × IsContent bytes content at
there bytes at known = (content_at known.reached.known known.oid at, content_known bytes known.reached known.oid at known.begins known.is)

pub data_header_at-requires : goal.data_header_at-requires
data_header_at-requires g c = λ told.
    let bytes : List ℕ = main_bytes (g.V.Volume.state c.args.volume.now).log in
    let t = there bytes c.args.at (c.requires.place told) in
    head_within bytes t.0 c.args.at t.1

pub content_of-requires-clause-some : goal.content_of-requires-clause-some
content_of-requires-clause-some g c = λ told.
    let now = ap main_bytes c.data_header_at.ensures.read.same in
    subst (λ (b : List ℕ). (content : Content) × IsContent b content c.args.at) (sym now) (there _ c.args.at (c.requires.place told))

pub returns-clause-content : goal.returns-clause-content
returns-clause-content g c = λ told reached oid begins is.
    let now = ap main_bytes c.data_header_at.ensures.read.same in
    c.content_of.ensures.value told (content_at reached.known oid c.args.at) (subst (λ (b : List ℕ). IsContent b (content_at reached.known oid c.args.at) c.args.at) (sym now) (content_known _ reached oid c.args.at begins is))

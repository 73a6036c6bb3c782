use Rattle.std.proofs.Common.{◌+◌, ◌≤◌, ℕ, List, ap, sym, subst, ◌∙◌, arith}
use Rattle.zb_model.specs.declared.data.Content.{Content}
use Rattle.fs_records.specs.Blocks.{content_at}
use Rattle.zb_volume.specs.Disk.{main_bytes}
use Rattle.fs_reading.specs.Sources.{IsKnownPlace}
use Rattle.fs_reading.specs.Standing.{data_head_at, IsContent}
use Rattle.fs_reading.specs.Histories.{content_known}
use Rattle.fs_reading.proofs.Fronts.{head_in, held_in}
use Rattle.fs_reading.proofs.contents.read_content_before.Goals as goal

there : (bytes : List ℕ) (at : ℕ) → IsKnownPlace bytes at → (content : Content) × IsContent bytes content at
there bytes at known = (content_at known.reached.known known.oid at, content_known bytes known.reached known.oid at known.begins known.is)

pub returns-then-header-held-clause-content : goal.returns-then-header-held-clause-content
returns-then-header-held-clause-content g c = λ told reached oid begins is.
    let bytes : List ℕ = main_bytes (g.V.Volume.state c.args.volume.now).log in
    let front : List ℕ = c.fill_front.new.out in
    let held : ℕ = c.in_ok-held.held in
    let enough : 42 ≤ held = omega (arith, c.in_ok-held.ensures.count, c.if-room.false) in
    let same = c.in_ok-held.ensures.bytes told in
    let head = c.header_in-header.ensures ∙ head_in front bytes c.args.at held enough same in
    let long : 42 + c.header_in-header.result.length ≤ held = omega (arith, enough, c.if-header-held.true) in
    c.in_ok-content.ensures ∙ held_in front bytes c.args.at held (content_at reached.known oid c.args.at) c.header_in-header.result long c.if-header-gt0.true same head (content_known bytes reached oid c.args.at begins is)

pub content_of-requires-clause-header : goal.content_of-requires-clause-header
content_of-requires-clause-header g c = λ told.
    let bytes : List ℕ = main_bytes (g.V.Volume.state c.args.volume.now).log in
    let now = ap main_bytes c.fill_front.ensures.read.same in
    let enough : 42 ≤ c.in_ok-held.held = omega (arith, c.in_ok-held.ensures.count, c.if-room.false) in
    c.header_in-header.ensures ∙ head_in c.fill_front.new.out bytes c.args.at c.in_ok-held.held enough (c.in_ok-held.ensures.bytes told) ∙ sym (ap (λ (b : List ℕ). data_head_at b c.args.at) now)

pub content_of-requires-clause-some : goal.content_of-requires-clause-some
content_of-requires-clause-some g c = λ told.
    let now = ap main_bytes c.fill_front.ensures.read.same in
    subst (λ (b : List ℕ). (content : Content) × IsContent b content c.args.at) (sym now) (there _ c.args.at (c.requires.place told))

pub returns-clause-content : goal.returns-clause-content
returns-clause-content g c = λ told reached oid begins is.
    let now = ap main_bytes c.fill_front.ensures.read.same in
    c.content_of.ensures.value told (content_at reached.known oid c.args.at) (subst (λ (b : List ℕ). IsContent b (content_at reached.known oid c.args.at) c.args.at) (sym now) (content_known _ reached oid c.args.at begins is))

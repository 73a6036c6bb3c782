use Rattle.std.proofs.Common.{◌≡◌, ℕ, ◌+◌, ◌≤◌, List, length, ap, sym, subst, ◌∙◌, arith}
use Rattle.std.specs.Prelude.{nat_eq}
use Rattle.indexmap.specs.IndexMap.{insert_entry}
use Rattle.zb_model.specs.declared.data.Content.{Content}
use Rattle.fs_records.specs.declared.header.DataHeader.{DataHeader}
use Rattle.fs_records.specs.Rules.{payload_size}
use Rattle.zb_volume.specs.Disk.{main_bytes}
use Rattle.fs_reading.specs.Standing.{data_head_at, IsContent}
use Rattle.fs_reading.specs.Outlines.{StandsWithin, outlined_content}
use Rattle.fs_reading.specs.Known.{AreSourcesOf}
use Rattle.fs_reading.specs.SourceEntries.{entries_from}
use Rattle.fs_reading.proofs.Chains.{head_within}
use Rattle.fs_reading.proofs.Forming.{entries_put, source_content, source_within, sources_more, within_more}
use Rattle.fs_reading.proofs.Between.{StandsFrom, next, ended}
use Rattle.fs_reading.proofs.outlining.sources_between.Goals as goal

pub data_header_at-requires : goal.data_header_at-requires
data_header_at-requires g c = λ told.
    let bytes : List ℕ = main_bytes (g.V.Volume.state c.args.volume.now).log in
    let now : main_bytes (g.V.Volume.state c.loop-place.volume).log ≡ bytes = ap main_bytes c.loop-place.invariant.same in
    let stand = c.requires.stand told in
    let n = next bytes c.loop-place.place c.args.end (entries_from bytes c.loop-place.entries.entries) stand.0 c.loop-place-test.true (c.loop-place.invariant.rest told stand.0 stand.1) in
    let within = head_within bytes n.content c.loop-place.place n.there in
    omega (arith, within, ap (λ (b : List ℕ). length b) now)

pub source_of-requires-clause-some : goal.source_of-requires-clause-some
source_of-requires-clause-some g c = λ told.
    let bytes : List ℕ = main_bytes (g.V.Volume.state c.args.volume.now).log in
    let now : main_bytes (g.V.Volume.state c.data_header_at.new.volume).log ≡ bytes = ap main_bytes (c.data_header_at.ensures.read.same ∙ c.loop-place.invariant.same) in
    let stand = c.requires.stand told in
    let n = next bytes c.loop-place.place c.args.end (entries_from bytes c.loop-place.entries.entries) stand.0 c.loop-place-test.true (c.loop-place.invariant.rest told stand.0 stand.1) in
    (n.content, subst (λ (b : List ℕ). IsContent b n.content c.loop-place.place) (sym now) n.there)

pub loop-place-preserved : goal.loop-place-preserved
loop-place-preserved g c = record {
  same = c.source_of.ensures.read.same ∙ c.data_header_at.ensures.read.same ∙ c.loop-place.invariant.same;
  reads = c.in_ok-source.ensures.read.uncounted ∙ c.in_ok-header.ensures.read.uncounted ∙ c.loop-place.invariant.reads;
  writes = c.source_of.ensures.read.write_faults ∙ c.data_header_at.ensures.read.write_faults ∙ c.loop-place.invariant.writes;
  rest = λ told ks between.
      let bytes : List ℕ = main_bytes (g.V.Volume.state c.args.volume.now).log in
      let place : ℕ = c.loop-place.place in
      let done : List (ℕ × Content) = entries_from bytes c.loop-place.entries.entries in
      let now : main_bytes (g.V.Volume.state c.loop-place.volume).log ≡ bytes = ap main_bytes c.loop-place.invariant.same in
      let then : main_bytes (g.V.Volume.state c.data_header_at.new.volume).log ≡ bytes = ap main_bytes c.data_header_at.ensures.read.same ∙ now in
      let n = next bytes place c.args.end done ks c.loop-place-test.true (c.loop-place.invariant.rest told ks between) in
      let header_is : c.in_ok-header.header ≡ data_head_at bytes place = c.in_ok-header.ensures.value told ∙ ap (λ (b : List ℕ). data_head_at b place) now in
      let content_is : outlined_content bytes c.in_ok-source.source ≡ n.content =
      ap (λ (b : List ℕ). outlined_content b c.in_ok-source.source) (sym then) ∙ source_content _ n.content c.in_ok-source.source (c.in_ok-source.ensures.value told n.content (subst (λ (b : List ℕ). IsContent b n.content place) (sym then) n.there)) in
      let oid_is : c.in_ok-header.header.oid ≡ (data_head_at bytes place).oid = ap (λ (h : DataHeader). h.oid) header_is in
      let size_is : payload_size c.in_ok-header.header ≡ payload_size (data_head_at bytes place) = ap (λ (h : DataHeader). payload_size h) header_is in
      let put : entries_from bytes c.insert.new.self.entries ≡ insert_entry nat_eq done c.in_ok-header.header.oid (outlined_content bytes c.in_ok-source.source) =
      ap (entries_from bytes) c.in_ok-insert.ensures.entries ∙ entries_put bytes c.loop-place.entries.entries c.in_ok-header.header.oid c.in_ok-source.source in
      let entries_are : insert_entry nat_eq done (data_head_at bytes place).oid n.content ≡ entries_from bytes c.insert.new.self.entries =
      sym (put ∙ ap (λ (o : ℕ). insert_entry nat_eq done o (outlined_content bytes c.in_ok-source.source)) oid_is ∙ ap (λ (x : Content). insert_entry nat_eq done (data_head_at bytes place).oid x) content_is) in
      let reach : place + 42 + payload_size (data_head_at bytes place) ≤ c.args.end = n.reach in
      let small = c.ranges.end in
      let place_is : place + 42 + payload_size (data_head_at bytes place) ≡ c.saturating_add-place.result = omega (arith, reach, size_is, small, c.saturating_add-place.ensures, c.payload_size.ensures, c.saturating_add.ensures) in
      subst (λ (q : ℕ). StandsFrom bytes q c.args.end (entries_from bytes c.insert.new.self.entries) ks) place_is (subst (λ (es : List (ℕ × Content)). StandsFrom bytes (place + 42 + payload_size (data_head_at bytes place)) c.args.end es ks) entries_are n.then);
  within = λ told.
      let bytes : List ℕ = main_bytes (g.V.Volume.state c.args.volume.now).log in
      let then : main_bytes (g.V.Volume.state c.data_header_at.new.volume).log ≡ bytes = ap main_bytes c.data_header_at.ensures.read.same ∙ ap main_bytes c.loop-place.invariant.same in
      let stand = c.requires.stand told in
      let n = next bytes c.loop-place.place c.args.end (entries_from bytes c.loop-place.entries.entries) stand.0 c.loop-place-test.true (c.loop-place.invariant.rest told stand.0 stand.1) in
      let there = source_within _ n.content c.in_ok-source.source (c.in_ok-source.ensures.value told n.content (subst (λ (b : List ℕ). IsContent b n.content c.loop-place.place) (sym then) n.there)) in
      within_more bytes c.loop-place.entries.entries c.insert.new.self.entries c.in_ok-header.header.oid c.in_ok-source.source (c.loop-place.invariant.within told) (subst (λ (b : List ℕ). StandsWithin b c.in_ok-source.source) then there) c.in_ok-insert.ensures.entries;
  formed = sources_more c.loop-place.entries.entries c.insert.new.self.entries c.in_ok-header.header.oid c.in_ok-source.source c.loop-place.invariant.formed c.in_ok-source.ensures.filled c.in_ok-insert.ensures.entries c.in_ok-insert.ensures.unique;
  known = λ told.
      subst (λ (b : List ℕ). AreSourcesOf b c.source_of.new.known) (ap main_bytes (c.source_of.ensures.read.same ∙ c.data_header_at.ensures.read.same ∙ c.loop-place.invariant.same)) (c.source_of.ensures.known told);
}

pub returns-clause-value : goal.returns-clause-value
returns-clause-value g c = λ told ks between.
    let bytes : List ℕ = main_bytes (g.V.Volume.state c.args.volume.now).log in
    ended bytes c.loop-place.place c.args.end (entries_from bytes c.loop-place.entries.entries) ks c.loop-place-test.false (c.loop-place.invariant.rest told ks between)

pub source_of-requires-clause-known : goal.source_of-requires-clause-known
source_of-requires-clause-known g c = λ told.
    subst (λ (b : List ℕ). AreSourcesOf b c.loop-place.known) (sym (ap main_bytes (c.data_header_at.ensures.read.same ∙ c.loop-place.invariant.same))) (c.loop-place.invariant.known told)

pub returns-in_err-header-clause-known : goal.returns-in_err-header-clause-known
returns-in_err-header-clause-known g c = λ told.
    subst (λ (b : List ℕ). AreSourcesOf b c.loop-place.known) (sym (ap main_bytes (c.data_header_at.ensures.read.same ∙ c.loop-place.invariant.same))) (c.loop-place.invariant.known told)

pub returns-clause-known : goal.returns-clause-known
returns-clause-known g c = λ told.
    subst (λ (b : List ℕ). AreSourcesOf b c.loop-place.known) (sym (ap main_bytes c.loop-place.invariant.same)) (c.loop-place.invariant.known told)

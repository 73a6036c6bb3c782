use Rattle.std.proofs.Common.{◌≡◌, ℕ, ◌+◌, eqb, List, map, take, drop, ap, sym, subst, ◌∙◌, arith}
use Rattle.zb_model.specs.declared.data.Content.{Content}
use Rattle.fs_records.specs.declared.header.Header.{Header}
use Rattle.fs_records.specs.Blocks.{as_change}
use Rattle.zb_volume.specs.Disk.{main_bytes}
use Rattle.fs_reading.specs.ChangesStand.{RecordsBetween, records_begin, records_end}
use Rattle.fs_reading.specs.Standing.{head_at, user_at, description_at}
use Rattle.fs_reading.specs.Outlines.{AllStandWithin, outlined_change}
use Rattle.fs_reading.specs.SourceEntries.{entries_from}
use Rattle.fs_reading.proofs.Forming.{changes_are, changes_outlined, changes_within}
use Rattle.fs_reading.proofs.Wholes.{transaction_from}
use Rattle.fs_reading.proofs.outlining.outline_at.Goals as goal

pub returns-clause-value : goal.returns-clause-value
returns-clause-value g c = λ told t stands changes.
    let bytes : List ℕ = main_bytes (g.V.Volume.state c.args.volume.now).log in
    let at : ℕ = c.args.place.at in
    let h : c.in_ok-header.header ≡ head_at bytes at = c.in_ok-header.ensures.value told in
    let n1 : main_bytes (g.V.Volume.state c.header_at.new.volume).log ≡ bytes = ap main_bytes c.header_at.ensures.read.same in
    let n2 : main_bytes (g.V.Volume.state c.user_and_description.new.volume).log ≡ bytes = ap main_bytes c.user_and_description.ensures.read.same ∙ n1 in
    let n3 : main_bytes (g.V.Volume.state c.bytes_at.new.volume).log ≡ bytes = ap main_bytes c.bytes_at.ensures.read.same ∙ n2 in
    let short = c.requires.short told in
    let texts = stands.texts in
    let hu = ap (λ (x : Header). x.user) h in
    let hd = ap (λ (x : Header). x.description) h in
    let he = ap (λ (x : Header). x.extension) h in
    let hl = ap (λ (x : Header). x.length) h in
    let behind : c.saturating_add-behind.result ≡ at + 23 + (head_at bytes at).user + (head_at bytes at).description = omega (arith, texts, short, hu, hd, c.saturating_add.ensures, c.saturating_add-2.ensures, c.saturating_add-behind.ensures) in
    let from : records_begin bytes at ≡ c.saturating_add-from.result = omega (arith, texts, short, he, behind, c.saturating_add-from.ensures) in
    let within = changes.within in
    let end : records_end bytes at ≡ c.saturating_add-end.result = omega (arith, within, short, hl, c.saturating_add-end.ensures) in
    let between = subst (λ (b : List ℕ). RecordsBetween b c.saturating_add-from.result c.saturating_add-end.result changes.records) (sym n3)
    (subst (λ (n : ℕ). RecordsBetween bytes n c.saturating_add-end.result changes.records) from (subst (λ (n : ℕ). RecordsBetween bytes (records_begin bytes at) n changes.records) end changes.between)) in
    transaction_from t
    (ap (λ (x : Header). x.tid) h ∙ stands.tid)
    (ap (λ (x : Header). eqb x.status 112) h ∙ stands.packed)
    (c.in_ok-user.ensures.user told ∙ ap (λ (b : List ℕ). user_at b at) n1 ∙ stands.user)
    (c.in_ok-user.ensures.description told ∙ ap (λ (b : List ℕ). description_at b at) n1 ∙ stands.description)
    (c.in_ok-extension.ensures.value told ∙ ap (λ (b : List ℕ). take c.in_ok-header.header.extension (drop c.saturating_add-behind.result b)) n2 ∙ ap (λ (n : ℕ). take n (drop c.saturating_add-behind.result bytes)) he ∙ ap (λ (n : ℕ). take (head_at bytes at).extension (drop n bytes)) behind ∙ stands.extension)
    (ap (map (outlined_change bytes)) c.in_ok-changes.ensures ∙ changes_are bytes c.in_ok-entries.entries.entries
    ∙ ap (λ (es : List (ℕ × Content)). map as_change es) (ap (λ (b : List ℕ). entries_from b c.in_ok-entries.entries.entries) (sym n3) ∙ c.in_ok-entries.ensures.value told changes.records between) ∙ sym changes.are)

pub sources_between-requires-clause-stand : goal.sources_between-requires-clause-stand
sources_between-requires-clause-stand g c = λ told.
    let t = c.requires.stands told in
    let bytes : List ℕ = main_bytes (g.V.Volume.state c.args.volume.now).log in
    let at : ℕ = c.args.place.at in
    let h : c.in_ok-header.header ≡ head_at bytes at = c.in_ok-header.ensures.value told in
    let n1 : main_bytes (g.V.Volume.state c.header_at.new.volume).log ≡ bytes = ap main_bytes c.header_at.ensures.read.same in
    let n2 : main_bytes (g.V.Volume.state c.user_and_description.new.volume).log ≡ bytes = ap main_bytes c.user_and_description.ensures.read.same ∙ n1 in
    let n3 : main_bytes (g.V.Volume.state c.bytes_at.new.volume).log ≡ bytes = ap main_bytes c.bytes_at.ensures.read.same ∙ n2 in
    let short = c.requires.short told in
    let texts = t.1.texts in
    let changes = t.2 in
    let hu = ap (λ (x : Header). x.user) h in
    let hd = ap (λ (x : Header). x.description) h in
    let he = ap (λ (x : Header). x.extension) h in
    let hl = ap (λ (x : Header). x.length) h in
    let behind : c.saturating_add-behind.result ≡ at + 23 + (head_at bytes at).user + (head_at bytes at).description = omega (arith, texts, short, hu, hd, c.saturating_add.ensures, c.saturating_add-2.ensures, c.saturating_add-behind.ensures) in
    let from : records_begin bytes at ≡ c.saturating_add-from.result = omega (arith, texts, short, he, behind, c.saturating_add-from.ensures) in
    let within = changes.within in
    let end : records_end bytes at ≡ c.saturating_add-end.result = omega (arith, within, short, hl, c.saturating_add-end.ensures) in (
      changes.records,
      subst (λ (b : List ℕ). RecordsBetween b c.saturating_add-from.result c.saturating_add-end.result changes.records) (sym n3)
          (subst (λ (n : ℕ). RecordsBetween bytes n c.saturating_add-end.result changes.records) from (subst (λ (n : ℕ). RecordsBetween bytes (records_begin bytes at) n changes.records) end changes.between)),
    )

pub returns-clause-formed : goal.returns-clause-formed
returns-clause-formed g c = record {
  user = omega (arith, c.in_ok-user.ensures.counts.0);
  description = omega (arith, c.in_ok-user.ensures.counts.1);
  extension = omega (arith, c.in_ok-extension.ensures.count);
  changes = changes_outlined c.in_ok-entries.entries.entries c.in_ok-changes.changes c.in_ok-changes.ensures c.in_ok-entries.ensures.formed;
}

pub returns-clause-within : goal.returns-clause-within
returns-clause-within g c = λ told.
    let now : main_bytes (g.V.Volume.state c.bytes_at.new.volume).log ≡ main_bytes (g.V.Volume.state c.args.volume.now).log = ap main_bytes (c.bytes_at.ensures.read.same ∙ c.user_and_description.ensures.read.same ∙ c.header_at.ensures.read.same) in
    subst (λ (b : List ℕ). AllStandWithin b c.in_ok-changes.changes) now
    (changes_within (main_bytes (g.V.Volume.state c.bytes_at.new.volume).log) c.in_ok-entries.entries.entries c.in_ok-changes.changes c.in_ok-changes.ensures (c.in_ok-entries.ensures.within told))

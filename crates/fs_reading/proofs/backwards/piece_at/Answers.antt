use Rattle.std.proofs.Common.{◌≡◌, ℕ, ◌-◌, List, length, take, drop, ap, ◌∙◌, arith}
use Rattle.fs_records.specs.declared.header.Header.{Header}
use Rattle.zb_volume.specs.Disk.{main_bytes}
use Rattle.fs_reading.specs.Standing.{head_at}
use Rattle.fs_reading.proofs.Showing.{read_shows}
use Rattle.fs_reading.proofs.backwards.piece_at.Goals as goal

pub bytes_at-requires : goal.bytes_at-requires
bytes_at-requires g c = λ told.
    let bytes : List ℕ = main_bytes (g.V.Volume.state c.args.volume.now).log in
    let now : main_bytes (g.V.Volume.state c.header_at.new.volume).log ≡ bytes = ap main_bytes c.header_at.ensures.read.same in
    let h : c.in_ok-header.header ≡ head_at bytes c.args.at = c.in_ok-header.ensures.value told in
    let hu = ap (λ (x : Header). x.user) h in
    let hd = ap (λ (x : Header). x.description) h in
    let texts = c.requires.texts told in
    omega (arith, texts, hu, hd, ap (λ (b : List ℕ). length b) now, c.begin_of-from.ensures, c.saturating_add.ensures, c.saturating_add-2.ensures, c.saturating_add-end.ensures)

pub returns-clause-shows : goal.returns-clause-shows
returns-clause-shows g c = λ told.
    let bytes : List ℕ = main_bytes (g.V.Volume.state c.args.volume.now).log in
    let now : main_bytes (g.V.Volume.state c.header_at.new.volume).log ≡ bytes = ap main_bytes c.header_at.ensures.read.same in
    read_shows bytes c.in_ok-bytes.bytes c.begin_of-from.result (c.saturating_add-end.result - c.begin_of-from.result) (c.in_ok-bytes.ensures.value told ∙ ap (λ (b : List ℕ). take (c.saturating_add-end.result - c.begin_of-from.result) (drop c.begin_of-from.result b)) now) c.in_ok-bytes.ensures.count

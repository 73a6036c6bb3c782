use Rattle.std.proofs.Common.{◌≡◌, ◌≢◌, ℕ, ◌<◌, List, Some, ap, sym, subst, ◌∙◌, arith}
use Rattle.zb_model.specs.declared.data.Content.{Content}
use Rattle.fs_records.specs.declared.header.DataHeader.{DataHeader}
use Rattle.zb_volume.specs.Disk.{main_bytes}
use Rattle.fs_reading.specs.Sources.{IsSource}
use Rattle.fs_reading.specs.Standing.{data_head_at, back_at, IsContent}
use Rattle.fs_reading.proofs.Chains.{when_absent, when_earlier, when_held}
use Rattle.fs_reading.proofs.Longer.{source_here}
use Rattle.fs_reading.proofs.contents.follow.Goals as goal

pub returns-then-back-eq0-clause-value : goal.returns-then-back-eq0-clause-value
returns-then-back-eq0-clause-value g c = λ told content is.
    let bytes : List ℕ = main_bytes (g.V.Volume.state c.args.volume.now).log in
    let place : ℕ = c.loop-length.place in
    let now : main_bytes (g.V.Volume.state c.loop-length.volume).log ≡ bytes = ap main_bytes c.loop-length.invariant.same in
    let back : back_at bytes place ≡ 0 = sym (ap (λ (b : List ℕ). back_at b place) now) ∙ sym (c.in_ok-back.ensures.value told) ∙ c.if-back-eq0.true in
    let none : (data_head_at bytes place).length ≡ 0 = sym (c.loop-length.invariant.length_is told) ∙ c.loop-length-test.true in
    when_absent bytes content place (c.loop-length.invariant.each told content is) none back

pub returns-then-back-place-clause-value : goal.returns-then-back-place-clause-value
returns-then-back-place-clause-value g c = λ told content is.
    let bytes : List ℕ = main_bytes (g.V.Volume.state c.args.volume.now).log in
    let place : ℕ = c.loop-length.place in
    let now : main_bytes (g.V.Volume.state c.loop-length.volume).log ≡ bytes = ap main_bytes c.loop-length.invariant.same in
    let back : back_at bytes place ≡ c.in_ok-back.back = sym (ap (λ (b : List ℕ). back_at b place) now) ∙ sym (c.in_ok-back.ensures.value told) in
    let none : (data_head_at bytes place).length ≡ 0 = sym (c.loop-length.invariant.length_is told) ∙ c.loop-length-test.true in
    let apart : back_at bytes place ≢ 0 = λ zero. c.if-back-eq0.false (sym back ∙ zero) in
    let before : back_at bytes place < place = (when_earlier bytes content place (c.loop-length.invariant.each told content is) none apart).0 in
    absurd (omega (arith, back, before, c.if-back-place.true))

pub loop-length-preserved : goal.loop-length-preserved
loop-length-preserved g c =
    let bytes : List ℕ = main_bytes (g.V.Volume.state c.args.volume.now).log in
    let place : ℕ = c.loop-length.place in
    let next : ℕ = c.in_ok-back.back in
    let now : main_bytes (g.V.Volume.state c.loop-length.volume).log ≡ bytes = ap main_bytes c.loop-length.invariant.same in
    let then : main_bytes (g.V.Volume.state c.back_pointer_at.new.volume).log ≡ bytes = ap main_bytes c.back_pointer_at.ensures.read.same ∙ now in
    let back : (told : g.V.Volume.told) → back_at bytes place ≡ next = λ told. sym (ap (λ (b : List ℕ). back_at b place) now) ∙ sym (c.in_ok-back.ensures.value told) in
    let none : (told : g.V.Volume.told) → (data_head_at bytes place).length ≡ 0 = λ told. sym (c.loop-length.invariant.length_is told) ∙ c.loop-length-test.true in
    let earlier : (told : g.V.Volume.told) (content : Content) → IsContent bytes content place → IsContent bytes content next = λ told content is.
    subst (λ (n : ℕ). IsContent bytes content n) (back told) (when_earlier bytes content place is (none told) (λ zero. c.if-back-eq0.false (sym (back told) ∙ zero))).1 in
    record {
      same = c.data_header_at.ensures.read.same ∙ c.back_pointer_at.ensures.read.same ∙ c.loop-length.invariant.same;
      reads = c.in_ok-length.ensures.read.uncounted ∙ c.in_ok-back.ensures.read.uncounted ∙ c.loop-length.invariant.reads;
      writes = c.data_header_at.ensures.read.write_faults ∙ c.back_pointer_at.ensures.read.write_faults ∙ c.loop-length.invariant.writes;
      length_is = λ told. ap (λ (h : DataHeader). h.length) (c.in_ok-length.ensures.value told) ∙ ap (λ (b : List ℕ). (data_head_at b next).length) then;
      some = λ told. let s = c.loop-length.invariant.some told in (s.0, earlier told s.0 s.1);
      each = λ told content is. earlier told content (c.loop-length.invariant.each told content is);
    }

pub returns-clause-value : goal.returns-clause-value
returns-clause-value g c = λ told content is.
    let bytes : List ℕ = main_bytes (g.V.Volume.state c.args.volume.now).log in
    let place : ℕ = c.loop-length.place in
    let length_is : (data_head_at bytes place).length ≡ c.loop-length.length = sym (c.loop-length.invariant.length_is told) in
    let h = when_held bytes content place (c.loop-length.invariant.each told content is) (λ zero. c.loop-length-test.false (sym length_is ∙ zero)) in
    subst (λ (n : ℕ). IsSource bytes content (Some (record { at = place; length = n }))) length_is h

pub returns-in-Some-clause-value : goal.returns-in-Some-clause-value
returns-in-Some-clause-value g c = λ told content is.
    let bytes : List ℕ = main_bytes (g.V.Volume.state c.args.volume.now).log in
    source_here bytes content c.loop-length.place c.in-Some.found.source (c.in-Some.ensures.known bytes (c.requires.known told)) (c.loop-length.invariant.each told content is)

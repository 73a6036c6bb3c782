-- A place up to which a file was read isn't behind the file's end. Source: own.
use Rattle.std.proofs.Common.{◌≡◌, ℕ, ◌+◌, ◌≤◌, List, [], ◌∷◌, ◌++◌, length, drop, Option, Some, None, refl, sym, ap, subst, ◌∙◌, append_assoc, arith}
use Rattle.std.proofs.lemmas.List.{append_cancel_left, length-append}
use Rattle.fs_records.specs.declared.header.Header.{Header}
use Rattle.fs_records.specs.declared.verdict.Verdict.TheVariants.{Begun}
use Rattle.fs_records.specs.Blocks.{AreBlocks, Begins, Block, Reached, after_block, after_blocks, block_text, blocks_text, file_start, header_for, length_of, magic}
use Rattle.fs_records.specs.BlockLaws.{after-end}
use Rattle.fs_records.specs.File.{EndsAt, IsReadAs}
use Rattle.fs_records.specs.Headers.{header_of}
use Rattle.fs_records.specs.Rules.{verdict}
use Rattle.fs_records.specs.Unique.{block_again, front_same}
use Rattle.fs_records.specs.WriteLaws.{length-block_text, length-read}

after-newest : (s : Reached) (b : Block) → (after_block s b).newest ≡ b.tid
unfolding after_block
after-newest s b = refl

further : (s : Reached) (bs : List Block) → s.end ≤ (after_blocks s bs).end
further s [] = omega arith
further s (b ∷ bs) = omega (arith, after-end s b, further (after_block s b) bs)

-- no transaction begins there
abbrev NoneBegins : Reached → List ℕ → Type 0
NoneBegins s rest = verdict s.newest rest ≡ Begun → ⊥

blocks_within : (s t : Reached) (bs cs : List Block) (x y : List ℕ) → s.end ≡ t.end → s.newest ≡ t.newest → AreBlocks s bs → AreBlocks t cs → blocks_text s bs ++ x ≡ blocks_text t cs ++ y → NoneBegins (after_blocks t cs) y → (after_blocks s bs).end ≤ (after_blocks t cs).end
blocks_within s t [] cs x y ends newest hb hc e stops = omega (arith, ends, further t cs)
blocks_within s t (b ∷ bs) [] x y ends newest hb hc e stops =
    let here : y ≡ block_text s.end b ++ (blocks_text (after_block s b) bs ++ x) = sym e ∙ append_assoc (block_text s.end b) (blocks_text (after_block s b) bs) x in
    absurd (stops (ap (λ (n : ℕ). verdict n y) (sym newest) ∙ ap (verdict s.newest) here ∙ (block_again s b (blocks_text (after_block s b) bs ++ x) hb.0).0))
blocks_within s t (b ∷ bs) (c ∷ cs) x y ends newest hb hc e stops =
    let more = blocks_text (after_block s b) bs ++ x in
    let others = blocks_text (after_block t c) cs ++ y in
    let whole : block_text s.end b ++ more ≡ block_text t.end c ++ others = sym (append_assoc (block_text s.end b) (blocks_text (after_block s b) bs) x) ∙ e ∙ append_assoc (block_text t.end c) (blocks_text (after_block t c) cs) y in
    let header : header_for s.end b ≡ header_for t.end c = sym (block_again s b more hb.0).1 ∙ ap header_of whole ∙ (block_again t c others hc.0).1 in
    let long : length_of s.end b ≡ length_of t.end c = ap (λ (h : Header). h.length) header in
    let tid : b.tid ≡ c.tid = ap (λ (h : Header). h.tid) header in
    let behind = front_same (block_text s.end b) (block_text t.end c) more others (length-block_text s.end b ∙ ap (λ (n : ℕ). n + 8) long ∙ sym (length-block_text t.end c)) whole in
    let rest = blocks_within (after_block s b) (after_block t c) bs cs x y (omega (arith, after-end s b, after-end t c, ends, long)) (after-newest s b ∙ tid ∙ sym (after-newest t c)) hb.1 hc.1 behind.1 stops in
    rest

none_begins : (bytes : List ℕ) (s : Reached) (cut : Option ℕ) → EndsAt bytes s cut → NoneBegins s (drop s.end bytes)
none_begins bytes s None ends begun = cc
none_begins bytes s (Some at) ends begun = absurd (cc (ends.0, begun))

pub begins_within : (bytes : List ℕ) (s t : Reached) (cut : Option ℕ) → Begins bytes s → IsReadAs bytes t cut → s.end ≤ t.end
begins_within bytes s t cut begins stands =
    let e = append_cancel_left magic _ _ (sym begins.parts ∙ stands.begins.parts) in
    let stops = none_begins bytes t cut stands.ends in
    let rest = blocks_within file_start file_start begins.blocks stands.begins.blocks (drop s.end bytes) (drop t.end bytes) refl refl begins.are stands.begins.are e (subst (λ (r : Reached). NoneBegins r (drop t.end bytes)) stands.begins.is stops) in
    omega (arith, rest, ap (λ (r : Reached). r.end) begins.is, ap (λ (r : Reached). r.end) stands.begins.is)

pub read_within : (bytes : List ℕ) (s : Reached) → Begins bytes s → s.end ≤ length bytes
read_within bytes s begins =
    let blocks = blocks_text file_start begins.blocks in
    omega (arith, ap (λ (b : List ℕ). length b) begins.parts, length-append magic (blocks ++ drop s.end bytes), length-append blocks (drop s.end bytes), length-append magic blocks, length-read bytes s begins)

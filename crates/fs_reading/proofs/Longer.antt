-- A content that stands in bytes stands in longer ones, in one way.
use Rattle.std.proofs.Common.{◌≡◌, ℕ, ◌+◌, ◌<◌, ◌≤◌, zero, suc, List, [], ◌∷◌, ◌++◌, length, take, drop, get_or, Option, Some, None, sym, ap, subst, ◌∙◌, append-nil, arith}
use Rattle.std.proofs.Math.ListN.{set}
use Rattle.std.proofs.lemmas.List.{length-append, length-drop, drop-append-le, take-append-le}
use Rattle.zb_model.specs.declared.data.Content.{Content}
use Rattle.zb_model.specs.declared.data.Content.TheVariants.{Held}
use Rattle.fs_records.specs.declared.header.DataHeader.{DataHeader}
use Rattle.fs_records.specs.Headers.{data_header_of}
use Rattle.fs_records.specs.HeaderLaws.{data_header_of-take}
use Rattle.fs_records.specs.Numbers.{number_in}
use Rattle.fs_records.specs.NumberLaws.{number_in-append}
use Rattle.fs_records.specs.Rules.{payload_size}
use Rattle.fs_reading.specs.declared.outline.KnownSource.{KnownSource}
use Rattle.fs_reading.specs.declared.outline.Source.{Source}
use Rattle.fs_reading.specs.Known.{AreSourcesOf, IsSourceOf}
use Rattle.fs_reading.specs.Sources.{IsSource}
use Rattle.fs_reading.specs.Standing.{data_head_at, back_at, HasPayload, IsContent, held, absent, earlier}
use Rattle.fs_reading.proofs.Chains.{pointer_within, when_absent, when_earlier, when_held}

-- ---- what stands at a place

-- so many bytes from a place on
piece_longer : (bytes rest : List ℕ) (at n : ℕ) → at + n ≤ length bytes → take n (drop at (bytes ++ rest)) ≡ take n (drop at bytes)
piece_longer bytes rest at n within =
    ap (take n) (drop-append-le at bytes rest (omega (arith, within))) ∙ take-append-le n (drop at bytes) rest (omega (arith, within, length-drop at bytes))

head_longer : (bytes rest : List ℕ) (at : ℕ) → at + 42 ≤ length bytes → data_head_at (bytes ++ rest) at ≡ data_head_at bytes at
head_longer bytes rest at within =
    sym (data_header_of-take (drop at (bytes ++ rest))) ∙ ap data_header_of (piece_longer bytes rest at 42 within) ∙ data_header_of-take (drop at bytes)

back_longer : (bytes rest : List ℕ) (at : ℕ) → at + 42 + 8 ≤ length bytes → back_at (bytes ++ rest) at ≡ back_at bytes at
back_longer bytes rest at within =
    ap (number_in 8) (drop-append-le (at + 42) bytes rest (omega (arith, within))) ∙ number_in-append 8 (drop (at + 42) bytes) rest (omega (arith, within, length-drop (at + 42) bytes))

payload_longer : (bytes rest : List ℕ) (at : ℕ) → HasPayload bytes at → HasPayload (bytes ++ rest) at
payload_longer bytes rest at whole =
    let h : data_head_at (bytes ++ rest) at ≡ data_head_at bytes at = head_longer bytes rest at (omega arith) in
    let size : payload_size (data_head_at (bytes ++ rest) at) ≡ payload_size (data_head_at bytes at) = ap (λ (x : DataHeader). payload_size x) h in
    omega (arith, whole, size, length-append bytes rest)

pub content_longer : (bytes rest : List ℕ) (content : Content) (at : ℕ) → IsContent bytes content at → IsContent (bytes ++ rest) content at
content_longer bytes rest content _ (held at whole some is) =
    let h : data_head_at (bytes ++ rest) at ≡ data_head_at bytes at = head_longer bytes rest at (omega arith) in
    let len : (data_head_at (bytes ++ rest) at).length ≡ (data_head_at bytes at).length = ap (λ (x : DataHeader). x.length) h in
    let there = when_held bytes content at (held at whole some is) some in
    held at (payload_longer bytes rest at whole) (λ e. some (sym len ∙ e))
    (is ∙ ap (λ (x : List ℕ). Held x) (sym (piece_longer bytes rest (at + 42) (data_head_at bytes at).length there.1) ∙ ap (λ (n : ℕ). take n (drop (at + 42) (bytes ++ rest))) (sym len)))
content_longer bytes rest content _ (absent at whole none naught is) =
    let h : data_head_at (bytes ++ rest) at ≡ data_head_at bytes at = head_longer bytes rest at (omega arith) in
    let len : (data_head_at (bytes ++ rest) at).length ≡ (data_head_at bytes at).length = ap (λ (x : DataHeader). x.length) h in
    let back : back_at (bytes ++ rest) at ≡ back_at bytes at = back_longer bytes rest at (pointer_within bytes content at (absent at whole none naught is) none) in
    absent at (payload_longer bytes rest at whole) (len ∙ none) (back ∙ naught) is
content_longer bytes rest content _ (earlier at whole none apart before more) =
    let h : data_head_at (bytes ++ rest) at ≡ data_head_at bytes at = head_longer bytes rest at (omega arith) in
    let len : (data_head_at (bytes ++ rest) at).length ≡ (data_head_at bytes at).length = ap (λ (x : DataHeader). x.length) h in
    let back : back_at (bytes ++ rest) at ≡ back_at bytes at = back_longer bytes rest at (pointer_within bytes content at (earlier at whole none apart before more) none) in
    earlier at (payload_longer bytes rest at whole) (len ∙ none) (λ e. apart (sym back ∙ e)) (omega (arith, back, before))
    (subst (λ (n : ℕ). IsContent (bytes ++ rest) content n) (sym back) (content_longer bytes rest content (back_at bytes at) more))

-- ---- there is one

pub one_content : (bytes : List ℕ) (c d : Content) (at : ℕ) → IsContent bytes c at → IsContent bytes d at → d ≡ c
one_content bytes c d _ (held at whole some is) other = (when_held bytes d at other some).0 ∙ sym is
one_content bytes c d _ (absent at whole none naught is) other = when_absent bytes d at other none naught ∙ sym is
one_content bytes c d _ (earlier at whole none apart before more) other = one_content bytes c d (back_at bytes at) more (when_earlier bytes d at other none apart).1

source_longer : (bytes rest : List ℕ) (content : Content) (source : Option Source) → IsSource bytes content source → IsSource (bytes ++ rest) content source
source_longer bytes rest content None is = is
source_longer bytes rest content (Some s) is =
    (is.0 ∙ ap (λ (x : List ℕ). Held x) (sym (piece_longer bytes rest (s.at + 42) s.length is.1)), omega (arith, is.1, length-append bytes rest))

-- where a content stands that is there
pub source_known : (bytes : List ℕ) (content : Content) (at : ℕ) (source : Option Source) → IsContent bytes content at → IsSource bytes content source → IsSourceOf bytes at source
source_known bytes content at source there is rest other is_there =
    let same : other ≡ content = one_content (bytes ++ rest) content other at (content_longer bytes rest content at there) is_there in
    subst (λ (x : Content). IsSource (bytes ++ rest) x source) (sym same) (source_longer bytes rest content source is)

pub source_here : (bytes : List ℕ) (content : Content) (at : ℕ) (source : Option Source) → IsSourceOf bytes at source → IsContent bytes content at → IsSource bytes content source
source_here bytes content at source is there =
    subst (λ (x : List ℕ). IsSource x content source) (append-nil bytes) (is [] content (subst (λ (x : List ℕ). IsContent x content at) (sym (append-nil bytes)) there))

-- ---- lists of them

pub known_get : (bytes : List ℕ) (known : List KnownSource) (i : ℕ) (d : KnownSource) → AreSourcesOf bytes known → i < length known → IsSourceOf bytes (get_or known i d).at (get_or known i d).source
known_get bytes [] i d all within = absurd (omega arith)
known_get bytes (k ∷ ks) zero d all within = all.0
known_get bytes (k ∷ ks) (suc i) d all within = known_get bytes ks i d all.1 (omega arith)

pub known_push : (bytes : List ℕ) (known : List KnownSource) (k : KnownSource) → AreSourcesOf bytes known → IsSourceOf bytes k.at k.source → AreSourcesOf bytes (known ++ k ∷ [])
known_push bytes [] k all one = (one, tt)
known_push bytes (x ∷ xs) k all one = (all.0, known_push bytes xs k all.1 one)

pub known_set : (bytes : List ℕ) (known : List KnownSource) (i : ℕ) (k : KnownSource) → AreSourcesOf bytes known → IsSourceOf bytes k.at k.source → AreSourcesOf bytes (set known i k)
known_set bytes [] i k all one = tt
known_set bytes (x ∷ xs) zero k all one = (one, all.1)
known_set bytes (x ∷ xs) (suc i) k all one = (all.0, known_set bytes xs i k all.1 one)

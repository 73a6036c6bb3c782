-- What is noted of the data records of an object.
use Rattle.std.proofs.Common.{◌≡◌, ◌≢◌, ℕ, zero, suc, ◌+◌, ◌<◌, List, [], ◌∷◌, ◌++◌, length, map, get_or, take, drop, Option, Some, None, refl, sym, ap, subst, ◌∙◌, arith}
use Rattle.std.specs.Prelude.{option_map, reverse}
use Rattle.std.specs.List.{AllByRecursion}
use Rattle.std.proofs.lemmas.List.{length-take-le, length-drop}
use Rattle.zb_model.specs.declared.data.Content.{Content}
use Rattle.zb_model.specs.declared.lists.Revision.{Revision}
use Rattle.zb_model.specs.Lists.{size_of}
use Rattle.fs_records.specs.declared.header.DataHeader.{DataHeader}
use Rattle.fs_index.specs.declared.place.Place.{Place}
use Rattle.fs_records.specs.Blocks.{Known}
use Rattle.fs_records.specs.Indexed.{place_of}
use Rattle.fs_reading.specs.declared.outline.Source.{Source}
use Rattle.fs_reading.specs.declared.noted.Noted.{Noted}
use Rattle.fs_reading.specs.Sizes.{noted_of, IsNotedAt}
use Rattle.fs_reading.specs.Sources.{IsSource}
use Rattle.fs_reading.specs.Standing.{data_head_at, back_at, IsContent, held, absent, earlier, RecordStands, lasts, revision_line_of}
use Rattle.fs_reading.proofs.Chains.{when_absent, when_earlier, when_held}

-- a data record has one content
pub one_content : (bytes : List ℕ) (c d : Content) (at : ℕ) → IsContent bytes c at → IsContent bytes d at → c ≡ d
one_content bytes c d _ (held at w some is) other = is ∙ sym (when_held bytes d at other some).0
one_content bytes c d _ (absent at w none back is) other = is ∙ sym (when_absent bytes d at other none back)
one_content bytes c d _ (earlier at w none back before more) other = one_content bytes c d (back_at bytes at) more (when_earlier bytes d at other none back).1

-- how many bytes a content has that stands in the record itself
pub size_held : (bytes : List ℕ) (content : Content) (at n : ℕ) → IsContent bytes content at → n ≡ (data_head_at bytes at).length → n ≢ 0 → Some n ≡ size_of content
size_held bytes content at n is n_is some =
    let h = when_held bytes content at is (λ zero. some (n_is ∙ zero)) in
    let long : length (take (data_head_at bytes at).length (drop (at + 42) bytes)) ≡ (data_head_at bytes at).length = length-take-le (data_head_at bytes at).length (drop (at + 42) bytes) (omega (arith, h.1, length-drop (at + 42) bytes)) in
    ap (λ (k : ℕ). Some k) (n_is ∙ sym long) ∙ ap size_of (sym h.0)

-- or where it was looked for
pub size_found : (bytes : List ℕ) (content : Content) (o : Option Source) → IsSource bytes content o → option_map (λ s. s.length) o ≡ size_of content
size_found bytes content None is = ap size_of (sym is)
size_found bytes content (Some source) is =
    let long : length (take source.length (drop (source.at + 42) bytes)) ≡ source.length = length-take-le source.length (drop (source.at + 42) bytes) (omega (arith, is.1, length-drop (source.at + 42) bytes)) in
    ap (λ (k : ℕ). Some k) (sym long) ∙ ap size_of (sym is.0)

-- or that was noted of the record that a back pointer leads to
pub size_noted : (bytes : List ℕ) (content : Content) (at back : ℕ) (noted : Noted) → IsContent bytes content at → (data_head_at bytes at).length ≡ 0 → back ≡ back_at bytes at → back ≢ 0 → IsNotedAt bytes back noted → noted.size ≡ size_of content
size_noted bytes content at back noted is none back_is some there =
    let more : IsContent bytes content (back_at bytes at) = (when_earlier bytes content at is none (λ zero. some (back_is ∙ zero))).1 in
    let k = there.known in
    let here : k.place ≡ back_at bytes at = there.place ∙ back_is in
    let same : k.content ≡ content = one_content bytes k.content content k.place there.stands.content (rw here more) in
    ap (λ (x : Noted). x.size) there.is ∙ ap size_of same

-- what stands at one index of the places and of what was noted
pub noted_there : (bytes : List ℕ) (ks : List Known) (n at : ℕ) (p d : Place) (x y : Noted) → AllByRecursion (RecordStands bytes) ks → n < length ks → p ≡ get_or (map place_of ks) n d → x ≡ get_or (map (noted_of bytes) ks) n y → p.at ≡ at → IsNotedAt bytes at x
noted_there bytes [] n at p d x y all within p_is x_is at_is = absurd (omega arith)
noted_there bytes (k ∷ ks) zero at p d x y all within p_is x_is at_is = record { known = k; place = sym (ap (λ (q : Place). q.at) p_is) ∙ at_is; stands = all.0; is = x_is }
noted_there bytes (k ∷ ks) (suc n) at p d x y all within p_is x_is at_is = noted_there bytes ks n at p d x y all.1 (omega arith) p_is x_is at_is

-- one more
pub noted_more : (f : Known → Noted) (ks : List Known) (i : ℕ) (k : Known) → drop i ks ≡ k ∷ drop (i + 1) ks → map f (take (i + 1) ks) ≡ map f (take i ks) ++ f k ∷ []
noted_more f [] zero k is = absurd cc
noted_more f [] (suc i) k is = absurd cc
noted_more f (x ∷ xs) zero k is = let same : x ≡ k = cc in ap (λ (y : Known). f y ∷ []) same
noted_more f (x ∷ xs) (suc i) k is =
    let e : suc i + 1 ≡ suc (i + 1) = omega arith in
    let rest : drop i xs ≡ k ∷ drop (i + 1) xs = is ∙ ap (λ (n : ℕ). k ∷ drop n (x ∷ xs)) e in
    ap (λ (n : ℕ). map f (take n (x ∷ xs))) e ∙ ap (λ (l : List Noted). f x ∷ l) (noted_more f xs i k rest)

pub front_stands : (P : Known → Type 0) (ks : List Known) (n : ℕ) → AllByRecursion P ks → AllByRecursion P (take n ks)
front_stands P [] zero all = tt
front_stands P [] (suc n) all = tt
front_stands P (k ∷ ks) zero all = tt
front_stands P (k ∷ ks) (suc n) all = (all.0, front_stands P ks n all.1)

pub front_places : (ks : List Known) (n : ℕ) → take n (map place_of ks) ≡ map place_of (take n ks)
front_places [] zero = refl
front_places [] (suc n) = refl
front_places (k ∷ ks) zero = refl
front_places (k ∷ ks) (suc n) = ap (λ (ps : List Place). place_of k ∷ ps) (front_places ks n)

-- what was noted at an index
pub noted_index : (f : Known → Noted) (ks : List Known) (i : ℕ) (k : Known) (y : Noted) → drop i ks ≡ k ∷ drop (i + 1) ks → get_or (map f ks) i y ≡ f k
noted_index f [] zero k y is = absurd cc
noted_index f [] (suc i) k y is = absurd cc
noted_index f (x ∷ xs) zero k y is = let same : x ≡ k = cc in ap f same
noted_index f (x ∷ xs) (suc i) k y is =
    let e : suc i + 1 ≡ suc (i + 1) = omega arith in
    noted_index f xs i k y (is ∙ ap (λ (n : ℕ). k ∷ drop n (x ∷ xs)) e)

-- the same of the same bytes
pub all_noted : (bytes now : List ℕ) (ks : List Known) (places : List Place) (noted : List Noted) → now ≡ bytes → places ≡ map place_of ks → AllByRecursion (RecordStands bytes) ks → noted ≡ map (noted_of bytes) ks
    → AllByRecursion (RecordStands now) ks × (noted ≡ map (noted_of now) ks)
all_noted bytes now ks places noted same are all is = subst (λ (b : List ℕ). AllByRecursion (RecordStands b) ks × (noted ≡ map (noted_of b) ks)) (sym same) (all, is)

pub lines_are : (bytes now : List ℕ) (ks : List Known) (lines : List Revision) → now ≡ bytes → lines ≡ reverse (map (revision_line_of now) (lasts ks)) → lines ≡ reverse (map (revision_line_of bytes) (lasts ks))
lines_are bytes now ks lines same is = subst (λ (b : List ℕ). lines ≡ reverse (map (revision_line_of b) (lasts ks))) same is

-- what stands at a place, by what is known of it
pub content_there : (bytes : List ℕ) (place : Place) (k : Known) → place ≡ place_of k → RecordStands bytes k → IsContent bytes k.content place.at
content_there bytes place k is stands = subst (λ (n : ℕ). IsContent bytes k.content n) (sym (ap (λ (p : Place). p.at) is)) stands.content

pub noted_is : (bytes : List ℕ) (place : Place) (k : Known) (size : Option ℕ) (h : DataHeader) → place ≡ place_of k → size ≡ size_of k.content → h ≡ data_head_at bytes place.at → record { size = size; transaction = h.transaction } ≡ noted_of bytes k
noted_is bytes place k size h is size_is head =
    ap (λ (o : Option ℕ). record { size = o; transaction = h.transaction }) size_is
    ∙ ap (λ (x : DataHeader). record { size = size_of k.content; transaction = x.transaction }) head
    ∙ ap (λ (p : Place). record { size = size_of k.content; transaction = (data_head_at bytes p.at).transaction }) is

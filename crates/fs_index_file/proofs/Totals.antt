-- The numbers of transactions are made from what is counted of each.
use Rattle.std.proofs.Common.{◌≡◌, ℕ, ◌+◌, ◌<◌, ◌≤◌, zero, suc, Bool, false, List, [], ◌∷◌, ◌++◌, length, get_or, map, take, refl, sym, ap, subst, ◌∙◌, arith}
use Rattle.std.specs.Prelude.{Option, Some, slice_get, unwrap_or}
use Rattle.std.proofs.lemmas.List.{get_or-map, length-map, take_all, take_more}
use Rattle.zb_model.specs.declared.data.Transaction.{Transaction}
use Rattle.zb_model.specs.Queries.{greatest_of, oids_of}
use Rattle.fs_index.specs.declared.place.Place.{Place}
use Rattle.fs_recovery.specs.declared.counted.Counted.{Counted}
use Rattle.fs_recovery.specs.Numbers.{NumbersKept, AreNumbersOf}
use Rattle.fs_index_file.specs.Counts.{AreCounted, counted_in}

abbrev no_transaction : Transaction
no_transaction = record { tid = 0; packed = false; user = []; description = []; extension = []; changes = [] }

-- these are the numbers of the first k transactions of such a list
abbrev pub CountsUpTo : List Place → List Bool → List Counted → ℕ → NumbersKept → Type 0
CountsUpTo starts packed counted k numbers =
    (list : List Transaction) → map (λ t. t.tid) list ≡ map (λ p. p.serial) starts → map (λ t. t.packed) list ≡ packed → map counted_in list ≡ counted → AreNumbersOf (take k list) numbers

-- with one transaction more
abbrev pub AddsOne : NumbersKept → NumbersKept → ℕ → Bool → Counted → Type 0
AddsOne old new tid packed counted =
    (list : List Transaction) (t : Transaction) → t.tid ≡ tid → t.packed ≡ packed → length t.changes ≡ counted.changes → greatest_of (oids_of t) ≡ counted.greatest → AreNumbersOf list old → AreNumbersOf (list ++ t ∷ []) new

there : {X Y : Type 0} (f : X → Y) (xs : List X) (ys : List Y) (k : ℕ) (d : X) (e : Y) → map f xs ≡ ys → k < length xs → f (get_or xs k d) ≡ get_or ys k e
there f xs ys k d e same within = sym (get_or-map f xs k d e within) ∙ ap (λ zs. get_or zs k e) same

got : {X : Type 0} (xs : List X) (k : ℕ) (d : X) → k < length xs → slice_get xs k ≡ Some (get_or xs k d)
got [] k d within = absurd (omega (arith, within))
got (x ∷ xs) zero d within = refl
got (x ∷ xs) (suc k) d within = got xs k d (omega (arith, within))

pub counts_next : (starts : List Place) (packed : List Bool) (counted : List Counted) (k : ℕ) (old new : NumbersKept) (p : Place) (b : Bool) (c : Counted) → k < length starts → p ≡ get_or starts k p → b ≡ unwrap_or (slice_get packed k) false → ((x : Counted) → slice_get counted k ≡ Some x → c ≡ x)
    → AddsOne old new p.serial b c → CountsUpTo starts packed counted k old → CountsUpTo starts packed counted (k + 1) new
counts_next starts packed counted k old new p b c within p_is b_is c_is adds so_far list tids packs counts =
    let same : length list ≡ length starts = sym (length-map list (λ (t : Transaction). t.tid)) ∙ ap (λ (ns : List ℕ). length ns) tids ∙ length-map starts (λ (q : Place). q.serial) in
    let here : k < length list = omega (arith, within, same) in
    let t = get_or list k no_transaction in
    let tid : t.tid ≡ p.serial = there (λ (x : Transaction). x.tid) list (map (λ (q : Place). q.serial) starts) k no_transaction 0 tids here ∙ get_or-map (λ (q : Place). q.serial) starts k p 0 within ∙ ap (λ (q : Place). q.serial) (sym p_is) in
    let packed_long : k < length packed = omega (arith, here, ap (λ (bs : List Bool). length bs) packs, length-map list (λ (x : Transaction). x.packed)) in
    let counted_long : k < length counted = omega (arith, here, ap (λ (cs : List Counted). length cs) counts, length-map list counted_in) in
    let is_packed : t.packed ≡ b = there (λ (x : Transaction). x.packed) list packed k no_transaction false packs here ∙ sym (b_is ∙ ap (λ (o : Option Bool). unwrap_or o false) (got packed k false packed_long)) in
    let is_counted : counted_in t ≡ c = there counted_in list counted k no_transaction c counts here ∙ sym (c_is (get_or counted k c) (got counted k c counted_long)) in
    subst (λ (l : List Transaction). AreNumbersOf l new) (sym (take_more list k no_transaction here))
    (adds (take k list) t tid is_packed (ap (λ (x : Counted). x.changes) is_counted) (ap (λ (x : Counted). x.greatest) is_counted) (so_far list tids packs counts))

pub counts_all : (starts : List Place) (packed : List Bool) (counted : List Counted) (k : ℕ) (numbers : NumbersKept) → length starts ≤ k → CountsUpTo starts packed counted k numbers → AreCounted starts packed counted numbers
counts_all starts packed counted k numbers done so_far list tids packs counts =
    let same : length list ≡ length starts = sym (length-map list (λ (t : Transaction). t.tid)) ∙ ap (λ (ns : List ℕ). length ns) tids ∙ length-map starts (λ (q : Place). q.serial) in
    subst (λ (l : List Transaction). AreNumbersOf l numbers) (take_all k list (omega (arith, done, same))) (so_far list tids packs counts)

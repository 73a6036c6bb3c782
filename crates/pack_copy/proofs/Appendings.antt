-- Bytes are put behind Side through a buffer.
use Rattle.std.proofs.Common.{◌≡◌, ℕ, ◌+◌, ◌-◌, List, [], ◌++◌, length, take, drop, Result, Ok, Err, OnOk, sym, ap, subst, ◌∙◌, append_assoc, arith}
use Rattle.std.proofs.Math.Seq.{take-add}
use Rattle.std.proofs.lemmas.List.{append-nil, drop-drop, length-append, take_rest}
use Rattle.zb_base.specs.Bytes.{AreBytes}
use Rattle.zb_volume.specs.declared.areas.Area.TheVariants.{Side}
use Rattle.zb_volume.specs.Calls.{Event}
use Rattle.zb_volume.specs.Disk.{seen}
use Rattle.pack_copy.specs.Appending.{Held, IsAppended, IsAtEnd, with_held}
use Rattle.pack_copy.specs.CopiedLaws.{append_bytes}

nothing_fits : AreBytes []
nothing_fits i = omega arith

-- nothing was put there
pub appended_none : (log : List Event) (b : Held) → IsAtEnd log b → IsAppended log b log b []
appended_none log b end = record { text_is = sym (append-nil (with_held log b)); end = end; fits = nothing_fits }

-- one text behind another
pub appended_join : (log mid now : List Event) (a b c : Held) (text more : List ℕ) → IsAppended log a mid b text → IsAppended mid b now c more → IsAppended log a now c (text ++ more)
appended_join log mid now a b c text more first rest = record {
  text_is = rest.text_is ∙ ap (λ (x : List ℕ). x ++ more) first.text_is ∙ append_assoc (with_held log a) text more;
  end = rest.end;
  fits = append_bytes text more first.fits rest.fits;
}

pub appended_is : (log now : List Event) (a b : Held) (text same : List ℕ) → text ≡ same → IsAppended log a now b text → IsAppended log a now b same
appended_is log now a b text same is appended = subst (λ (x : List ℕ). IsAppended log a now b x) is appended

-- more bytes are held
pub held_more : (log now : List Event) (a b : Held) (text : List ℕ) → now ≡ log → b.bytes ≡ a.bytes ++ text → b.end ≡ a.end → IsAtEnd log a → AreBytes text → IsAppended log a now b text
held_more log now a b text same bytes end at fits =
    subst (λ (l : List Event). IsAppended log a l b text) (sym same)
    (record { text_is = ap (λ (x : List ℕ). seen log Side ++ x) bytes ∙ sym (append_assoc (seen log Side) a.bytes text); end = end ∙ at; fits = fits })

-- those that were held are written
pub held_written : (log now : List Event) (a b : Held) → seen now Side ≡ seen log Side ++ a.bytes → b.bytes ≡ [] → b.end ≡ a.end + length a.bytes → IsAtEnd log a → IsAppended log a now b []
held_written log now a b written empty end at = record {
  text_is = ap (λ (x : List ℕ). seen now Side ++ x) empty ∙ append-nil (seen now Side) ∙ written ∙ sym (append-nil (seen log Side ++ a.bytes));
  end = omega (arith, end, at, ap length written, length-append (seen log Side) a.bytes);
  fits = nothing_fits;
}

-- a piece behind those before it
pub pieces_join : (done more at : ℕ) (bytes : List ℕ) → take done (drop at bytes) ++ take more (drop (at + done) bytes) ≡ take (done + more) (drop at bytes)
pieces_join done more at bytes = ap (λ (xs : List ℕ). take done (drop at bytes) ++ take more xs) (sym (drop-drop done at bytes)) ∙ sym (take-add done more (drop at bytes))

-- the same in a text that is held whole
pub fronts_join : (done more : ℕ) (bytes : List ℕ) → take done bytes ++ take more (take (length bytes - done) (drop done bytes)) ≡ take (done + more) bytes
fronts_join done more bytes = ap (λ (xs : List ℕ). take done bytes ++ take more xs) (take_rest bytes done) ∙ sym (take-add done more bytes)

-- a buffer that holds nothing
pub nothing_held : (log : List Event) (b : Held) → b.bytes ≡ [] → with_held log b ≡ seen log Side
nothing_held log b none = ap (λ (x : List ℕ). seen log Side ++ x) none ∙ append-nil (seen log Side)

-- what was held is written
pub all_written : (log now : List Event) (a b : Held) → b.bytes ≡ [] → IsAppended log a now b [] → seen now Side ≡ with_held log a
all_written log now a b none appended = sym (nothing_held now b none) ∙ appended.text_is ∙ append-nil (with_held log a)

-- neither Side nor what is held has changed
pub held_same : (log now : List Event) (a b : Held) → now ≡ log → b ≡ a → with_held now b ≡ with_held log a
held_same log now a b still same = ap (λ (l : List Event). with_held l b) still ∙ ap (λ (h : Held). with_held log h) same

-- ---- answers

pub ok_then : {T E : Type 0} (r : Result T E) (P Q : Type 0) → (P → Q) → OnOk r P → OnOk r Q
ok_then (Ok x) P Q then p = then p
ok_then (Err e) P Q then p = tt

pub ok_so : {T E : Type 0} (r : Result T E) (P : Type 0) → P → OnOk r P
ok_so (Ok x) P p = p
ok_so (Err e) P p = tt

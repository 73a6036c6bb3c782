-- The laws of a script.
use Rattle.std.proofs.Common.{◌≡◌, ℕ, ◌+◌, Bool, true, false, cond, List, [], ◌∷◌, ◌++◌, length, Option, Some, None, Result, Ok, Err, refl, sym, ap, subst, ◌∙◌, append_assoc, append-nil, arith, inl, inr}
use Rattle.std.specs.Prelude.{◌⊎◌, IsTrue, ◌&&◌}
use Rattle.std.proofs.lemmas.Bool.{and_parts}
use Rattle.std.proofs.lemmas.List.{length-append}
use Rattle.std.proofs.lemmas.Option.{cond_some}
use Rattle.zb_script.specs.declared.line.Turn.{Turn}
use Rattle.zb_script.specs.Lines.{pieces, lines_text, Spells, Lacks, IsEnd}
use Rattle.zb_script.specs.Spelling.{IsTurnText, AreTurnTexts}
use Rattle.zb_script.specs.declared.opened.Opened.{Opened}
use Rattle.zb_script.specs.Shape.{opened_by, stands_behind, can_stand, all_stand}
use Rattle.zb_script.specs.Script.{IsScript, IsBadLine}
use Rattle.zb_script.specs.Reading.{turn_at, turn_placed, then_turns, turns_at}
use Rattle.zb_script.proofs.FieldLaws.{Exact}
use Rattle.zb_script.proofs.LineLaws.{turn_takes, turn_again, turn_lacks, turn_some}
use Rattle.zb_script.proofs.Pieces.{pieces_line, pieces_last, first_piece, pieces_newline, pieces_nil}

-- ---- one piece

both_true : (x y : Bool) → x ≡ true → y ≡ true → (x && y) ≡ true
both_true true y p q = q
both_true false y p q = absurd cc

not_chosen : {A : Type 0} (b : Bool) (x : A) → cond b (Some x) None ≡ None → b ≡ false
not_chosen true x e = absurd cc
not_chosen false x e = refl

placed_some : (opened : Opened) (o : Option Turn) (t : Turn) → turn_placed opened o ≡ Some t → (o ≡ Some t) × (stands_behind opened t ≡ true)
placed_some opened None t e = absurd cc
placed_some opened (Some s) t e =
    let p = cond_some (stands_behind opened s) s t e in
    (ap (λ (x : Turn). Some x) p.1, subst (λ (x : Turn). stands_behind opened x ≡ true) p.1 p.0)

none_stands : Exact → (before : List Turn) (bad : List ℕ) → turn_placed (opened_by before) (turn_at bad) ≡ None → (t : Turn) → IsTurnText bad t → can_stand before t ≡ false
none_stands exact before bad none t h =
    not_chosen (can_stand before t) t (sym (ap (turn_placed (opened_by before)) (turn_again exact bad t h)) ∙ none)

none_placed : Exact → (before : List Turn) (bad : List ℕ) → ((t : Turn) → IsTurnText bad t → can_stand before t ≡ false) → turn_placed (opened_by before) (turn_at bad) ≡ None
none_placed exact before bad none = by_cases (turn_at bad) refl
  where
    by_cases : (r : Option Turn) → turn_at bad ≡ r → turn_placed (opened_by before) r ≡ None
    by_cases None e = refl
    by_cases (Some t) e = rw (none t (turn_takes exact bad t e)) refl

-- ---- turns from their pieces

then_ok : {P : Type 0} (before : List Turn) (o : Option Turn) (rest : List Turn → Result (List Turn) ℕ) (turns : List Turn) → then_turns before o rest ≡ Ok turns
    → ((t : Turn) → o ≡ Some t → rest (before ++ t ∷ []) ≡ Ok turns → P) → P
then_ok before None rest turns e then = absurd cc
then_ok before (Some t) rest turns e then = then t refl e

then_err : (before : List Turn) (k : ℕ) (o : Option Turn) (rest : List Turn → Result (List Turn) ℕ) → then_turns before o rest ≡ Err k
    → (o ≡ None × (length before + 1 ≡ k)) ⊎ ((t : Turn) × (o ≡ Some t) × (rest (before ++ t ∷ []) ≡ Err k))
then_err before k None rest e = inl (refl, cc)
then_err before k (Some t) rest e = inr (t, refl, e)

record AreRead (before : List Turn) (ps : List (List ℕ)) (whole : List Turn) : Type 0 where
  new : List Turn
  parts : whole ≡ before ++ new
  each : AreTurnTexts ps new
  shape : IsTrue (all_stand before new)

turns_take : Exact → (before : List Turn) (ps : List (List ℕ)) (whole : List Turn) → turns_at before ps ≡ Ok whole → AreRead before ps whole
unfolding turns_at
turns_take exact before [] whole e =
    let same : before ≡ whole = cc in
    record { new = []; parts = sym same ∙ sym (append-nil before); each = tt; shape = refl }
turns_take exact before (p ∷ ps) whole e =
    then_ok before (turn_placed (opened_by before) (turn_at p)) (λ turns. turns_at turns ps) whole e (λ t at_turn at_rest.
    let q = placed_some (opened_by before) (turn_at p) t at_turn in
    let later = turns_take exact (before ++ t ∷ []) ps whole at_rest in
    record {
      new = t ∷ later.new;
      parts = later.parts ∙ append_assoc before (t ∷ []) later.new;
      each = (turn_takes exact p t q.0, later.each);
      shape = both_true _ _ q.1 later.shape;
    })

turns_again : Exact → (before : List Turn) (ps : List (List ℕ)) (new : List Turn) → AreTurnTexts ps new → IsTrue (all_stand before new) → turns_at before ps ≡ Ok (before ++ new)
unfolding turns_at
turns_again exact before [] [] each shape = ap (λ (x : List Turn). Ok x) (sym (append-nil before))
turns_again exact before [] (t ∷ new) each shape = absurd each
turns_again exact before (p ∷ ps) [] each shape = absurd each
turns_again exact before (p ∷ ps) (t ∷ new) each shape =
    let s = and_parts (can_stand before t) (all_stand (before ++ t ∷ []) new) shape in
    rw (turn_again exact p t each.0, s.0) (turns_again exact (before ++ t ∷ []) ps new each.1 s.1 ∙ ap (λ (x : List Turn). Ok x) (append_assoc before (t ∷ []) new))

record FailsAt (before : List Turn) (ps : List (List ℕ)) (k : ℕ) : Type 0 where
  texts : List (List ℕ)
  front : List Turn
  bad : List ℕ
  others : List (List ℕ)
  each : AreTurnTexts texts front
  shape : IsTrue (all_stand before front)
  parts : ps ≡ texts ++ bad ∷ others
  place : k ≡ length before + length front + 1
  none : turn_placed (opened_by (before ++ front)) (turn_at bad) ≡ None

turns_fail : Exact → (before : List Turn) (k : ℕ) (ps : List (List ℕ)) → turns_at before ps ≡ Err k → FailsAt before ps k
unfolding turns_at
turns_fail exact before k [] e = absurd cc
turns_fail exact before k (p ∷ ps) e =
    elim (then_err before k (turn_placed (opened_by before) (turn_at p)) (λ turns. turns_at turns ps) e) [
      | inl bad ↦ record { texts = []; front = []; bad = p; others = ps; each = tt; shape = refl; parts = refl; place = omega (arith, bad.1); none = rw (append-nil before) (bad.0) }
      | inr good ↦
          let q = placed_some (opened_by before) (turn_at p) good.0 good.1 in
          let later = turns_fail exact (before ++ good.0 ∷ []) k ps good.2 in
          record {
            texts = p ∷ later.texts;
            front = good.0 ∷ later.front;
            bad = later.bad;
            others = later.others;
            each = (turn_takes exact p good.0 q.0, later.each);
            shape = both_true _ _ q.1 later.shape;
            parts = ap (λ (x : List (List ℕ)). p ∷ x) later.parts;
            place = omega (arith, later.place, length-append before (good.0 ∷ []));
            none = subst (λ (x : List Turn). turn_placed (opened_by x) (turn_at later.bad) ≡ None) (append_assoc before (good.0 ∷ []) later.front) later.none;
          }
    ]

turns_fail_again : Exact → (before : List Turn) (k : ℕ) (texts : List (List ℕ)) (front : List Turn) (bad : List ℕ) (others : List (List ℕ)) → AreTurnTexts texts front → IsTrue (all_stand before front)
    → turn_placed (opened_by (before ++ front)) (turn_at bad) ≡ None → k ≡ length before + length front + 1
    → turns_at before (texts ++ bad ∷ others) ≡ Err k
unfolding turns_at
turns_fail_again exact before k [] [] bad others each shape none place =
    let here : turn_placed (opened_by before) (turn_at bad) ≡ None = subst (λ (x : List Turn). turn_placed (opened_by x) (turn_at bad) ≡ None) (append-nil before) none in
    let n : length before + 1 ≡ k = omega (arith, place) in
    rw here (ap (λ (x : ℕ). Err x) n)
turns_fail_again exact before k [] (t ∷ front) bad others each shape none place = absurd each
turns_fail_again exact before k (p ∷ texts) [] bad others each shape none place = absurd each
turns_fail_again exact before k (p ∷ texts) (t ∷ front) bad others each shape none place =
    let s = and_parts (can_stand before t) (all_stand (before ++ t ∷ []) front) shape in
    let later = subst (λ (x : List Turn). turn_placed (opened_by x) (turn_at bad) ≡ None) (sym (append_assoc before (t ∷ []) front)) none in
    rw (turn_again exact p t each.0, s.0) (turns_fail_again exact (before ++ t ∷ []) k texts front bad others each.1 s.1 later (omega (arith, place, length-append before (t ∷ []))))

-- ---- pieces from lines

pieces_lines : (texts : List (List ℕ)) (turns : List Turn) (rest : List ℕ) → AreTurnTexts texts turns → pieces (lines_text texts ++ rest) ≡ texts ++ pieces rest
pieces_lines [] [] rest h = refl
pieces_lines [] (t ∷ turns) rest h = absurd h
pieces_lines (p ∷ texts) [] rest h = absurd h
pieces_lines (p ∷ texts) (t ∷ turns) rest h =
    let regrouped : lines_text (p ∷ texts) ++ rest ≡ p ++ 10 ∷ (lines_text texts ++ rest) = append_assoc (p ++ 10 ∷ []) (lines_text texts) rest ∙ append_assoc p (10 ∷ []) (lines_text texts ++ rest) in
    ap pieces regrouped ∙ pieces_line p _ (turn_lacks p t h.0) ∙ ap (λ (x : List (List ℕ)). p ∷ x) (pieces_lines texts turns rest h.1)

no_empty : (texts : List (List ℕ)) (turns : List Turn) (front : List (List ℕ)) → AreTurnTexts texts turns → texts ≡ front ++ [] ∷ [] → ⊥
no_empty [] turns [] h e = cc
no_empty [] turns (f ∷ front) h e = cc
no_empty (p ∷ texts) [] front h e = h
no_empty (p ∷ texts) (t ∷ turns) [] h e =
    let nothing : p ≡ [] = cc in
    absurd (omega (arith, turn_some p t h.0, ap length nothing))
no_empty (p ∷ texts) (t ∷ turns) (f ∷ front) h e = no_empty texts turns front h.1 cc

pieces_read : (bytes : List ℕ) (texts : List (List ℕ)) (turns : List Turn) → AreTurnTexts texts turns → Spells bytes texts → pieces bytes ≡ texts
pieces_read bytes texts turns h (inl e) =
    ap pieces (e ∙ sym (append-nil (lines_text texts))) ∙ pieces_lines texts turns [] h ∙ append-nil texts
pieces_read bytes texts turns h (inr e) =
    let whole : pieces (bytes ++ 10 ∷ []) ≡ texts = ap pieces (e ∙ sym (append-nil (lines_text texts))) ∙ pieces_lines texts turns [] h ∙ append-nil texts in
    elim (pieces_newline bytes) [
      | inl same ↦ sym same ∙ whole
      | inr more ↦ absurd (no_empty texts turns (pieces bytes) h (sym whole ∙ more))
    ]

-- ---- lines from pieces

lines_nil : (texts : List (List ℕ)) → texts ≡ [] → lines_text texts ≡ []
lines_nil [] e = refl
lines_nil (p ∷ texts) e = absurd cc

line_more : (bytes after text : List ℕ) (texts : List (List ℕ)) → bytes ≡ text ++ 10 ∷ after → Spells after texts → Spells bytes (text ∷ texts)
line_more bytes after text texts e (inl f) = inl (e ∙ ap (λ (x : List ℕ). text ++ 10 ∷ x) f ∙ sym (append_assoc text (10 ∷ []) (lines_text texts)))
line_more bytes after text texts e (inr f) = inr (ap (λ (x : List ℕ). x ++ 10 ∷ []) e ∙ append_assoc text (10 ∷ after) (10 ∷ []) ∙ ap (λ (x : List ℕ). text ++ 10 ∷ x) f ∙ sym (append_assoc text (10 ∷ []) (lines_text texts)))

text_found : (texts : List (List ℕ)) (bytes : List ℕ) → pieces bytes ≡ texts → Spells bytes texts
text_found [] bytes e = inl (pieces_nil bytes e)
text_found (p ∷ texts) bytes e =
    let first = first_piece bytes p texts e in
    elim first.rest [
      | inl last ↦
          let whole : bytes ≡ p = first.parts ∙ ap (λ (x : List ℕ). p ++ x) last.0 ∙ append-nil p in
          inr (ap (λ (x : List ℕ). x ++ 10 ∷ []) whole ∙ sym (append-nil (p ++ 10 ∷ [])) ∙ ap (λ (x : List ℕ). (p ++ 10 ∷ []) ++ x) (sym (lines_nil texts last.1)))
      | inr more ↦ line_more bytes more.0 p texts (first.parts ∙ ap (λ (x : List ℕ). p ++ x) more.1) (text_found texts more.0 more.2)
    ]

-- ---- the bad line

record Stops (bytes : List ℕ) (texts : List (List ℕ)) (bad : List ℕ) : Type 0 where
  more : List ℕ
  parts : bytes ≡ lines_text texts ++ (bad ++ more)
  one_line : Lacks 10 bad
  ends : IsEnd bad more

stops : (texts : List (List ℕ)) (bytes bad : List ℕ) (others : List (List ℕ)) → pieces bytes ≡ texts ++ bad ∷ others → Stops bytes texts bad
stops [] bytes bad others e =
    let first = first_piece bytes bad others e in
    record { more = first.more; parts = first.parts; one_line = first.one_line; ends = first.ends }
stops (p ∷ texts) bytes bad others e =
    let first = first_piece bytes p (texts ++ bad ∷ others) e in
    elim first.rest [
      | inl last ↦ absurd (omega (arith, ap length last.1, length-append texts (bad ∷ others)))
      | inr more ↦
          let later = stops texts more.0 bad others more.2 in
          record {
            more = later.more;
            parts = first.parts ∙ ap (λ (x : List ℕ). p ++ x) more.1 ∙ ap (λ (x : List ℕ). p ++ 10 ∷ x) later.parts ∙ sym (append_assoc p (10 ∷ []) (lines_text texts ++ (bad ++ later.more))) ∙ sym (append_assoc (p ++ 10 ∷ []) (lines_text texts) (bad ++ later.more));
            one_line = later.one_line;
            ends = later.ends;
          }
    ]

bad_piece : (bad more : List ℕ) → Lacks 10 bad → IsEnd bad more → (others : List (List ℕ)) × (pieces (bad ++ more) ≡ bad ∷ others)
bad_piece bad [] h ends = ([], ap pieces (append-nil bad) ∙ pieces_last bad ends h)
bad_piece bad (b ∷ more) h ends = (pieces more, ap (λ (x : ℕ). pieces (bad ++ x ∷ more)) ends ∙ pieces_line bad more h)

-- ---- what the script's reader ensures

pub script_found : Exact → (bytes : List ℕ) (turns : List Turn) → turns_at [] (pieces bytes) ≡ Ok turns → IsScript bytes turns
script_found exact bytes turns e =
    let r = turns_take exact [] (pieces bytes) turns e in
    subst (IsScript bytes) (sym r.parts) (record { texts = pieces bytes; each = r.each; text = text_found (pieces bytes) bytes refl; shape = r.shape })

pub script_read : Exact → (bytes : List ℕ) (turns : List Turn) → IsScript bytes turns → turns_at [] (pieces bytes) ≡ Ok turns
script_read exact bytes turns h = ap (turns_at []) (pieces_read bytes h.texts turns h.each h.text) ∙ turns_again exact [] h.texts turns h.each h.shape

pub bad_found : Exact → (bytes : List ℕ) (n : ℕ) → turns_at [] (pieces bytes) ≡ Err n → IsBadLine bytes n
bad_found exact bytes n e =
    let f = turns_fail exact [] n (pieces bytes) e in
    let s = stops f.texts bytes f.bad f.others f.parts in
    record {
      texts = f.texts;
      front = f.front;
      bad = f.bad;
      more = s.more;
      each = f.each;
      shape = f.shape;
      parts = s.parts;
      one_line = s.one_line;
      ends = s.ends;
      number = omega (arith, f.place);
      none = none_stands exact f.front f.bad f.none;
    }

pub bad_read : Exact → (bytes : List ℕ) (n : ℕ) → IsBadLine bytes n → turns_at [] (pieces bytes) ≡ Err n
bad_read exact bytes n b =
    let p = bad_piece b.bad b.more b.one_line b.ends in
    let whole : pieces bytes ≡ b.texts ++ b.bad ∷ p.0 = ap pieces b.parts ∙ pieces_lines b.texts b.front (b.bad ++ b.more) b.each ∙ ap (λ (x : List (List ℕ)). b.texts ++ x) p.1 in
    ap (turns_at []) whole ∙ turns_fail_again exact [] n b.texts b.front b.bad p.0 b.each b.shape (none_placed exact b.front b.bad b.none) (omega (arith, b.number))

pub one_script : Exact → (bytes : List ℕ) (one other : List Turn) → IsScript bytes one → IsScript bytes other → one ≡ other
one_script exact bytes one other p q =
    let both = sym (script_read exact bytes one p) ∙ script_read exact bytes other q in
    cc

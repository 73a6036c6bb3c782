use Rattle.fs_records.specs.Headers.{header_text}
use Rattle.pack_copy.proofs.Appendings.{appended_is, appended_join, ok_then}
use Rattle.pack_copy.proofs.Stays.{others_join}
use Rattle.pack_copy.proofs.Texts.{head_text}
use Rattle.pack_copy.proofs.writing.put_head.Goals as goal

pub returns-in_err-put-2-clause-others : goal.returns-in_err-put-2-clause-others
returns-in_err-put-2-clause-others g c = λ told. others_join _ _ _ (c.put.ensures.others told) (c.put-2.ensures.others told)

pub returns-in_err-put-3-clause-others : goal.returns-in_err-put-3-clause-others
returns-in_err-put-3-clause-others g c = λ told. others_join _ _ _ (others_join _ _ _ (c.put.ensures.others told) (c.put-2.ensures.others told)) (c.put-3.ensures.others told)

pub returns-clause-others : goal.returns-clause-others
returns-clause-others g c = λ told.
    others_join _ _ _ (others_join _ _ _ (others_join _ _ _ (c.put.ensures.others told) (c.put-2.ensures.others told)) (c.put-3.ensures.others told)) (c.put-4.ensures.others told)

pub returns-clause-appended : goal.returns-clause-appended
returns-clause-appended g c = λ told.
    let o = c.args.outline.now in
    let two = appended_join _ _ _ _ _ _ _ _ (c.in_ok-put.ensures.appended told) (c.in_ok-put-2.ensures.appended told) in
    let three = appended_join _ _ _ _ _ _ _ _ two (c.in_ok-put-3.ensures.appended told) in
    let text = head_text (header_text c.args.header.now) o.user o.description o.extension c.write_header.ensures.text c.as_slice.ensures.value c.as_slice-2.ensures.value c.as_slice-3.ensures.value in
    ok_then c.put-4.result _ _ (λ rest. appended_is _ _ _ _ _ _ text (appended_join _ _ _ _ _ _ _ _ three rest)) (c.put-4.ensures.appended told)

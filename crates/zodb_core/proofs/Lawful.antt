-- Laws of the machine, each as it is stated.
use Rattle.zodb_core.specs.HistoryLaws.{entry_numbers, fronts_rise, history_counts, left_greatest, numbers_new}
use Rattle.zodb_core.specs.StepLaws.{step_answered}
use Rattle.zodb_core.specs.Laws.{CountsNeverFall, EndingsKeepSound, FrontsNeverFall, GreatestNeverFalls, HistoriesKeepSound, HistoriesOnlyGrow, HistoriesComeTo, ListsArePackedAsAsked, ListsOnlyGrow, ListsStayDatabases, MachineStartsSound, NewNumbersAreNew, NewestNeverFalls, NumbersComeBehindGreatest, OpeningsKeepSound, PacksKeepFronts, PacksKeepViews, RecordsBelowFrontsStood, StatesBelowFrontsStay, StepsAreAnswered, StepsGrowOrPack, StepsKeepSound, StepsPackAsMarked, TurnsKeepLists}
use Rattle.zodb_core.specs.Machine.{machine_over}
use Rattle.zodb_core.specs.SoundLaws.{content_grown, front_come, history_grows, history_comes, history_sound, left_becomes, left_grows, left_sound, newest_come, opened_sound, over_sound, revision_grown, step_sound}
use Rattle.zodb_core.specs.SwitchLaws.{front_packed, left_as_marked, pack_keeps, packed_as_asked, record_come, turn_keeps_list}

pub starts_sound : MachineStartsSound
starts_sound list is = over_sound list is

pub steps_sound : StepsKeepSound
steps_sound rules m n q stamp sound formed = step_sound rules m n q stamp sound formed

pub endings_sound : EndingsKeepSound
endings_sound rules m n q stamp outcome sound formed = left_sound rules m n q stamp outcome sound formed

pub openings_sound : OpeningsKeepSound
openings_sound m sound = opened_sound m sound

pub histories_sound : HistoriesKeepSound
histories_sound rules m entries sound formed = history_sound rules m entries sound formed

pub stay_databases : ListsStayDatabases
stay_databases rules list counts entries is formed legal = (history_sound rules (machine_over list) entries (over_sound list is) formed).database

pub steps_become : StepsGrowOrPack
steps_become rules m n q stamp outcome sound = left_becomes rules m n q stamp outcome sound

pub steps_mark : StepsPackAsMarked
steps_mark rules m n q stamp outcome sound = left_as_marked rules m n q stamp outcome sound

pub lists_grow : ListsOnlyGrow
lists_grow rules m n q stamp outcome not sound = left_grows rules m n q stamp outcome not sound

pub histories_come : HistoriesComeTo
histories_come rules m entries sound formed = history_comes rules m entries sound formed

pub histories_grow : HistoriesOnlyGrow
histories_grow rules m entries sound formed none = history_grows rules m entries sound formed none

pub newest_rises : NewestNeverFalls
newest_rises list now leads = (newest_come list now leads, front_come list now leads)

pub states_stay : StatesBelowFrontsStay
states_stay oid front list grown grows up = (revision_grown oid front list grown grows up, content_grown oid front list grown grows up)

pub records_stood : RecordsBelowFrontsStood
records_stood oid front serial bytes list now leads up is = record_come oid front serial bytes list now leads up is

pub packed_as_was_asked : ListsArePackedAsAsked
packed_as_was_asked rules m n q stamp is = packed_as_asked rules m n q stamp is

pub turns_keep : TurnsKeepLists
turns_keep rules m n q stamp is not = turn_keeps_list rules m n q stamp is not

pub views_kept : PacksKeepViews
views_kept rules m n q stamp is = pack_keeps rules m n q stamp is

pub fronts_kept : PacksKeepFronts
fronts_kept rules m n q stamp is within = front_packed rules m n q stamp is within

pub fronts_never : FrontsNeverFall
fronts_never rules m counts entries sound formed legal = fronts_rise rules m counts entries sound formed legal

pub greatest_never : GreatestNeverFalls
greatest_never rules m n q stamp outcome = left_greatest rules m n q stamp outcome

pub numbers_behind : NumbersComeBehindGreatest
numbers_behind rules m counts e range legal is = entry_numbers rules m counts e range legal.0 is

pub numbers_are_new : NewNumbersAreNew
numbers_are_new rules m counts entries e range sound formed legal is = numbers_new rules m counts entries e range sound formed legal is

pub all_answered : StepsAreAnswered
all_answered rules m n q stamp = step_answered rules m n q stamp

pub counts_never : CountsNeverFall
counts_never rules m counts entries legal = history_counts rules m counts entries legal

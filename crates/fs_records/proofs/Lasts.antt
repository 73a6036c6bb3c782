-- The last record, by the definition and in an index.
use Rattle.std.proofs.Common.{filter, None, ap, ◌∙◌}
use Rattle.std.specs.List.{last_or}
use Rattle.fs_records.specs.Below.{last_map}
use Rattle.fs_records.specs.ScanLaws.{knows_is}
use Rattle.fs_records.specs.Indexed.{place_of, is_of, NewestIsTheLastRecord, StandsWhereARecordWasRead}

pub newest_is : NewestIsTheLastRecord
newest_is s kept oid is = ap (last_or None) (is.records oid) ∙ last_map place_of None (filter (is_of oid) s.known)

pub stands_is : StandsWhereARecordWasRead
stands_is s kept oid at is = knows_is s.known kept.entries is.records oid at

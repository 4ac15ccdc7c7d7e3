use Rattle.lv_recover.proofs.OneWay.{bad_at_one, never_both, opens_as_one}
use Rattle.lv_recover.proofs.laws.bytes_open_one_way.Goals as goal

pub returns-clause-one : goal.returns-clause-one
returns-clause-one c = opens_as_one c.records_are_spelled_one_way.ensures.one_record

pub returns-clause-never : goal.returns-clause-never
returns-clause-never c = never_both c.records_are_spelled_one_way.ensures.one_record

pub returns-clause-one_place : goal.returns-clause-one_place
returns-clause-one_place c = bad_at_one c.records_are_spelled_one_way.ensures.one_record

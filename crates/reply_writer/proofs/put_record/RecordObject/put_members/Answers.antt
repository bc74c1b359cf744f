use Rattle.reply_writer.proofs.Common.{◌++◌, first_record_fields, middle_record_fields, last_record_fields, adds_more}
use Rattle.reply_writer.proofs.put_record.RecordObject.put_members.Goals as goal

pub returns-clause-ok : goal.returns-clause-ok
returns-clause-ok c =
    let r = c.args.self.now in
    let two = adds_more c.args.out.now c.put_first_fields.new.out c.put_middle_fields.new.out (first_record_fields r) (middle_record_fields r) c.in_ok-put_first_fields.ensures.ok c.in_ok-put_middle_fields.ensures.ok in
    adds_more c.args.out.now c.put_middle_fields.new.out c.put_last_fields.new.out (first_record_fields r ++ middle_record_fields r) (last_record_fields r) two c.in_ok-put_last_fields.ensures.ok

use Rattle.std.proofs.Common.{inl, inr, ⊎_elim}
use Rattle.ncc_store.proofs.log_file.LogFileSystemFile.write_some.Goals as goal

pub returns-in-Ok-clause-images : goal.returns-in-Ok-clause-images
returns-in-Ok-clause-images c =
    let call = c.in-Ok.ensures.images in
    let torn = c.front_of-front.ensures.torn c.args.place in
    record {
      later = call.later;
      now = λ image here. let from = call.now image here in (from.0, from.1, torn _ _ from.2);
      nothing_else = λ t image le left. ⊎_elim (λ past. inl past) (λ from. inr (from.0, from.1, torn _ _ from.2)) (call.nothing_else t image le left);
      keeps = call.keeps;
    }

pub returns-in-Err-clause-images : goal.returns-in-Err-clause-images
returns-in-Err-clause-images c =
    let call = c.in-Err.ensures.images in
    let torn = c.front_of-front.ensures.torn c.args.place in
    record {
      later = call.later;
      now = λ image here. let from = call.now image here in (from.0, from.1, torn _ _ from.2);
      nothing_else = λ t image le left. ⊎_elim (λ past. inl past) (λ from. inr (from.0, from.1, torn _ _ from.2)) (call.nothing_else t image le left);
      keeps = call.keeps;
    }

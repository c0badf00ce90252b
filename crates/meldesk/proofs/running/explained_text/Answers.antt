use Rattle.meldesk.proofs.running.explained_text.Goals as goal

pub returns-in-Err : goal.returns-in-Err
returns-in-Err c = c.in-Err.ensures.rejected c.args.name.now

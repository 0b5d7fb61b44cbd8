use Rattle.change_lines.proofs.Told.{tells_nothing, tells_more}
use Rattle.change_lines.proofs.notes.Notes.tell_gaps.Goals as goal

pub returns-clause-text : goal.returns-clause-text
returns-clause-text g c = λ loud. tells_more _ _ _ _ _ _ _ _ c.tell_count.ensures.text (tells_more _ _ _ _ _ _ _ _ c.tell_count-2.ensures.text (tells_more _ _ _ _ _ _ _ _ c.tell_count-3.ensures.text (tells_more _ _ _ _ _ _ _ _ c.tell_count-4.ensures.text (tells_more _ _ _ _ _ _ _ _ c.tell_count-5.ensures.text (tells_more _ _ _ _ _ _ _ _ c.tell_count-6.ensures.text (tells_more _ _ _ _ _ _ _ _ c.tell_count-7.ensures.text (tells_more _ _ _ _ _ _ _ _ c.tell_count-8.ensures.text (tells_nothing _ _))))))))

use Rattle.ep_model.proofs.Ascending.{opened_ascending}
use Rattle.nt_blocks.specs.Ordered.{kinds_of}
use Rattle.pt_report.specs.Shares.{told_threads, told_numbers}
use Rattle.pt_report.proofs.ThreadLines.{lines-are}
use Rattle.pt_report.proofs.WithRundown.{told_ascending}
use Rattle.pt_report.proofs.laws.a_report_has_a_line_for_each_thread.Goals as goal

pub returns : goal.returns
returns c = λ definitions session past items lawful finished tell.
    lines-are (kinds_of items) (told_threads session past) (told_numbers definitions session past)
    (told_ascending definitions session past (c.the_program_has_no_thread_0.ensures.shares definitions session past lawful) (opened_ascending definitions session past lawful))
    (λ thread. c.items_have_the_numbers_of_the_session.ensures.numbers definitions session thread past items lawful finished tell)
    (λ thread. c.items_have_the_numbers_of_the_session.ensures.none definitions session thread past items lawful finished tell)

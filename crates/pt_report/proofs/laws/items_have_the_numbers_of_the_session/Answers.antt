use Rattle.std.proofs.Common.{◌≡◌, ℕ, List, true}
use Rattle.ep_defs.specs.declared.event.EventDef.{EventDef}
use Rattle.ep_defs.specs.declared.item.Item.{Item}
use Rattle.ep_model.specs.History.{Past, is_finished}
use Rattle.ep_model.specs.Lawful.{IsLawful}
use Rattle.ep_told.specs.Told.{told_entries}
use Rattle.nt_blocks.specs.Ordered.{Tell}
use Rattle.pt_report.proofs.WithRundown.{Known, told_known, told_unknown}
use Rattle.pt_report.proofs.laws.items_have_the_numbers_of_the_session.Goals as goal

pub returns : goal.returns
returns c =
    let known : (definitions : List EventDef) (session : ℕ) (past : Past) (items : List Item) → IsLawful definitions past → is_finished session past ≡ true
    → Tell items (told_entries definitions session past) → Known definitions session past items =
    λ definitions session past items lawful finished tell. record {
      faithful = c.finished_sessions_are_faithful.ensures.faithful definitions session past lawful finished;
      no_0 = c.the_program_has_no_thread_0.ensures.shares definitions session past lawful;
      limited = c.lawful_lists_are_limited.ensures.begins definitions past lawful;
      counted = λ t. c.finished_sessions_are_faithful.ensures.counted definitions session t past lawful finished;
      with_0 = c.a_rundown_tells_of_thread_0.ensures;
      numbers = c.items_have_the_numbers_of_their_shares.ensures.numbers;
      none = c.items_have_the_numbers_of_their_shares.ensures.none;
      tell = tell;
    }
    in
    record {
      numbers = λ definitions session thread past items lawful finished tell. told_known definitions session thread past items (known definitions session past items lawful finished tell);
      none = λ definitions session thread past items lawful finished tell. told_unknown definitions session thread past items (known definitions session past items lawful finished tell);
    }

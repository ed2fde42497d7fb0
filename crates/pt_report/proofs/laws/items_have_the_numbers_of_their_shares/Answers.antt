use Rattle.pt_report.proofs.Numbers.{shares_told, others_untold}
use Rattle.pt_report.proofs.laws.items_have_the_numbers_of_their_shares.Goals as goal

pub returns : goal.returns
returns c =
    record {
      numbers = λ shares items entries tell faithful. shares_told shares items entries tell faithful.complete faithful.missing faithful.told;
      none = λ shares items entries thread tell faithful. others_untold shares items entries thread tell faithful.alone;
    }

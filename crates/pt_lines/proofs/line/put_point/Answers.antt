use Rattle.pt_lines.proofs.Steps.{item-put, said-eq}
use Rattle.pt_lines.proofs.line.put_point.Goals as goal

pub returns-in-Lines : goal.returns-in-Lines
returns-in-Lines c = rw c.in-Lines.is (said-eq c.put_point_line.result _ _ _ c.put_point_line.ensures)

pub returns-in-Json : goal.returns-in-Json
returns-in-Json c = rw c.in-Json.is (said-eq c.put_point.result _ _ _ c.put_point.ensures)

pub returns-in-Chromium : goal.returns-in-Chromium
returns-in-Chromium c = rw c.in-Chromium.is (said-eq c.put_point-in-Chromium.result _ _ _ c.put_point-in-Chromium.ensures)

pub returns-in-Page : goal.returns-in-Page
returns-in-Page c = rw c.in-Page.is (item-put c.put_point-in-Page.result _ _ _ c.put_point-in-Page.ensures)

use Rattle.mp4norm.proofs.shell.sources.SourceKeptStore.stays.Goals as goal

pub returns-in-File : goal.returns-in-File
returns-in-File c = rw c.in-File.is c.stays.ensures

pub returns-in-Headers : goal.returns-in-Headers
returns-in-Headers c = rw c.in-Headers.is c.stays-in-Headers.ensures

pub returns-in-List : goal.returns-in-List
returns-in-List c = rw c.in-List.is c.stays-in-List.ensures
